-- The bytes of an input that are not returned as lines yet.
use Rattle.std.specs.Prelude.{ℕ, List, [], Option, Some, if◌then◌else◌}
use Rattle.std.specs.{Io.Buffered.reader_remaining, Io.KnownBytes.prepend_known, declared.io.traits.Read.Ghosts}
use Rattle.cellrun.specs.declared.lines.Lines.{Lines}

-- the held part of a line and the reader's bytes, if those are known; nothing after the end
abbrev pub bytes_left : {R : Type 0} {reader : Ghosts R} → Lines R reader → Option (List ℕ)
bytes_left {reader = reader} lines =
    if lines.is_done then Some []
    else prepend_known lines.held.items (reader_remaining reader.remaining lines.input)
