-- The lines of a script, how it ends, and what it writes, by the bytes of its input.
use Rattle.std.specs.Prelude.{◌≡◌, ◌≢◌, ℕ, ℤ, ◌+◌, ◌≤◌, Bool, List, [], ◌++◌, length, ◌==◌, Option, Some, None, IfSome, ⊤}
use Rattle.std.specs.{Io.KnownBytes.Appends, Io.KnownBytes.append_known, List.before_first, List.after_first}
use Rattle.async_cell_wakers.specs.declared.named.Named.{Named}
use Rattle.async_cell_model.specs.{Machine.State, declared.cell.Cell.TheVariants.Open}
use Rattle.cellrun.specs.{CallPrints.CallPrints, Command.Spells, Command.SpellsNone, declared.command.Command.Command, declared.lines.Next.Next, declared.script.Ended.Ended}
use Rattle.cellrun.specs.declared.lines.Next.TheVariants.{Call, Blank, Bad, End}
use Rattle.cellrun.specs.declared.script.Ended.TheVariants.{Done, BadLine, Failed}

-- the byte ends a line
abbrev pub is_line_feed : ℕ → Bool
is_line_feed = λ byte. byte == 10

-- the bytes before the first line feed, or all of them
abbrev pub first_line : List ℕ → List ℕ
first_line bytes = before_first is_line_feed bytes

-- the bytes after the first line feed, or none
abbrev pub after_line : List ℕ → List ℕ
after_line bytes = after_first is_line_feed bytes

-- what the line is: a call, nothing, or no call
abbrev pub IsLine : List ℕ → Next → Type 0
IsLine line (Call call) = Spells line call × (length line ≤ 64)
IsLine line Blank = line ≡ []
IsLine line Bad = (line ≢ []) × (length line ≤ 64 → SpellsNone line)
IsLine line End = ⊥

-- the next line or the end of the bytes, and the bytes after it, which are open after a bad line
abbrev pub IsNext : List ℕ → Option (List ℕ) → Next → Type 0
IsNext bytes left Bad = IsLine (first_line bytes) Bad
IsNext bytes left End = bytes ≡ []
IsNext bytes left next =
    (bytes ≢ []) × IsLine (first_line bytes) next × (left ≡ Some (after_line bytes))

-- an open cell without a value and without wakers, with one owner
abbrev pub new_cell : State ℤ Named
new_cell = record { cell = Open None 1; waiting = []; room = 0 }

-- rest begins with line n of the bytes, the calls of the lines before it lead to the cell, and they
-- print the text
pub data Prints (bytes : List ℕ) : ℕ → List ℕ → State ℤ Named → List ℕ → Type 0 where
  start : Prints bytes 1 bytes new_cell []
  blank : {n : ℕ} {rest text : List ℕ} {cell : State ℤ Named} → Prints bytes n rest cell text
      → rest ≢ [] → IsLine (first_line rest) Blank
      → Prints bytes (n + 1) (after_line rest) cell text
  called : {n : ℕ} {rest text : List ℕ} {cell next : State ℤ Named}
      (call : Command) (line : List ℕ) → Prints bytes n rest cell text
      → rest ≢ [] → IsLine (first_line rest) (Call call) → CallPrints cell call line next
      → Prints bytes (n + 1) (after_line rest) next (text ++ line)

-- How a script ends where rest begins with line n. It is done if there is no line, or stops at a
-- bad line n, and then all that was to be written is written. It may fail anywhere.
abbrev pub StopsAt : ℕ → List ℕ → List ℕ → Ended → Type 0
StopsAt n rest unwritten Done = (rest ≡ []) × (unwritten ≡ [])
StopsAt n rest unwritten (BadLine number) =
    (number ≡ n) × IsLine (first_line rest) Bad × (unwritten ≡ [])
StopsAt n rest unwritten Failed = ⊤

-- If the bytes of the input are known, the lines before some line n are calls or empty, and the
-- script stops at n. If the writer's bytes `before` and `after` are known, what was written between
-- them is what these calls print: all of it, or a prefix if the script failed.
abbrev pub Owes : Option (List ℕ) → Option (List ℕ) → Option (List ℕ) → Ended → Type 0
Owes bytes before after ended = IfSome bytes (λ input.
    (n : ℕ) × (rest : List ℕ) × (cell : State ℤ Named) × (text : List ℕ) × (unwritten : List ℕ)
    × Prints input n rest cell text × StopsAt n rest unwritten ended
    × Appends before (append_known after unwritten) text)
