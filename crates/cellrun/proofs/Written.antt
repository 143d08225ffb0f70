-- The bytes of an output, and what a script has written, from one line to the next and at its end.
use Rattle.cellrun.proofs.Words.{◌≡◌, ℕ, ◌+◌, List, take, drop, ◌++◌, Option, length, ◌≤◌, arith, append_assoc, take-append-drop, drop-drop, append_known-moved, drop-append-le, Keeps, Appends}
use Rattle.cellrun.proofs.Words.{append_known, State, Named, CallPrints, IsNext, after_line, Command, Call, Blank, Failed, ℤ, [], Some, None, IfSome, IfSome_then, Result, IsErr, refl}
use Rattle.cellrun.proofs.Words.{append-nil, Appends-nil, Appends-kept, Appends-trans, Keeps-refl, result_unwrap_or, Prints, StopsAt, Owes, new_cell, start, blank}
use Rattle.cellrun.proofs.Words.{called, Ended}

-- n bytes of what is not written yet are written
pub moved : (old new : Option (List ℕ)) (gathered : List ℕ) (written n : ℕ) → Appends old new (take n (drop written gathered))
    → Keeps (append_known old (drop written gathered)) (append_known new (drop (written + n) gathered))
moved old new gathered written n more = grind (arith, drop-drop n written gathered, append_known-moved, take-append-drop n (drop written gathered))

pub gathered_more : (held : Option (List ℕ)) (gathered items text : List ℕ) (written : ℕ) → written ≤ length gathered → items ≡ gathered ++ text
    → Appends (append_known held (drop written gathered)) (append_known held (drop written items)) text
gathered_more held gathered items text written within is = grind (arith, drop-append-le, append_assoc)

-- What is left of the input begins with line n, the calls before it lead to the cell, and they
-- print what the writer got since `before`, if its bytes are known.
pub record Stands (input : List ℕ) (left : Option (List ℕ)) (n : ℕ) (cell : State ℤ Named) (before now : Option (List ℕ)) : Type 0 where
  pub rest : List ℕ
  pub text : List ℕ
  pub left_is : left ≡ Some rest
  pub prints : Prints input n rest cell text
  pub appends : Appends before now text

-- the same, if the input's bytes are known
abbrev pub IsPrinted : Option (List ℕ) → Option (List ℕ) → ℕ → State ℤ Named → Option (List ℕ) → Option (List ℕ) → Type 0
IsPrinted bytes left n cell before now = IfSome bytes (λ input. Stands input left n cell before now)

pub printed_start : (left before : Option (List ℕ)) → IsPrinted left left 1 new_cell before before
printed_start None before = tt
printed_start (Some bytes) before = record { rest = bytes; text = []; left_is = refl; prints = start; appends = Appends-nil before }

module _ (left : Option (List ℕ)) (n : ℕ) (cell : State ℤ Named) (before now : Option (List ℕ)) where
  pub printed_blank : (bytes next mid : Option (List ℕ)) → IsPrinted bytes left n cell before now → IfSome left (λ rest. IsNext rest next Blank)
      → Keeps now mid → IsPrinted bytes next (n + 1) cell before mid
  printed_blank bytes next mid s i k =
      IfSome_then bytes s (λ input s. let is = rw s.left_is at i in
      record { rest = after_line s.rest; text = s.text; left_is = is.2; prints = blank s.prints is.0 is.1; appends = Appends-kept before now mid s.text s.appends k })

  pub printed_call : (bytes next mid after : Option (List ℕ)) (call : Command) (line : List ℕ) (to : State ℤ Named) → IsPrinted bytes left n cell before now
      → IfSome left (λ rest. IsNext rest next (Call call)) → Keeps now mid → CallPrints cell call line to → Appends mid after line → IsPrinted bytes next (n + 1) to before after
  printed_call bytes next mid after call line to s i k does more =
      IfSome_then bytes s (λ input s. let is = rw s.left_is at i in let text = Appends-trans before mid after s.text line (Appends-kept before now mid s.text s.appends k) more in
      record { rest = after_line s.rest; text = s.text ++ line; left_is = is.2; prints = called call line s.prints is.0 is.1 does; appends = text })

  -- how the script ends there, and what it has written
  pub owes : (bytes after : Option (List ℕ)) (ended : Ended) → IsPrinted bytes left n cell before now → Keeps now after → ((rest : List ℕ) → left ≡ Some rest → StopsAt n rest [] ended)
      → Owes bytes before after ended
  owes bytes after ended s k stops =
      IfSome_then bytes s (λ input s. let more = Appends-kept before now after s.text s.appends k in
      (n, s.rest, cell, s.text, [], s.prints, stops s.rest s.left_is, grind (arith, append-nil, more)))

  pub owes_failed : (bytes after : Option (List ℕ)) → IsPrinted bytes left n cell before now → Keeps now after → Owes bytes before after Failed
  owes_failed bytes after s k = owes bytes after Failed s k (λ rest is. tt)

-- nothing was written
pub owes_nothing : (bytes before : Option (List ℕ)) → Owes bytes before before Failed
owes_nothing bytes before = owes_failed bytes 1 new_cell before before bytes before (printed_start bytes before) (Keeps-refl before)

-- after all that was gathered is written
pub owes_flushed : (bytes before total flushed after : Option (List ℕ)) (ended : Ended) → Owes bytes before total ended → Keeps total flushed → Keeps flushed after → Owes bytes before after ended
owes_flushed bytes before total flushed after ended h k l = grind arith

-- after a part of what was gathered is written
pub owes_cut : (bytes before total after : Option (List ℕ)) (unwritten : List ℕ) (ended : Ended) → Owes bytes before total ended → Keeps total (append_known after unwritten)
    → Owes bytes before after Failed
owes_cut bytes before total after unwritten ended h k =
    IfSome_then bytes h (λ input w. let more = w.7 in (w.0, w.1, w.2, w.3, unwritten ++ w.4, w.5, tt, grind (arith, append_assoc, more)))

-- an error is a failure
pub err_fails : {E : Type 0} (bytes before after : Option (List ℕ)) (r : Result Ended E) → IsErr r → Owes bytes before after Failed → Owes bytes before after (result_unwrap_or r Failed)
err_fails bytes before after r e h = grind arith

-- the same of the reader and the writer that a script is given
pub owes_kept : (bytes left before now after : Option (List ℕ)) (ended : Ended) → Keeps bytes left → Keeps before now → Owes left now after ended → Owes bytes before after ended
owes_kept bytes left before now after ended k l h = grind arith
