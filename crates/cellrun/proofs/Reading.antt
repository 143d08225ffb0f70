-- What is read after the first words of a line, the first line feed in joined bytes, and the next
-- line.
use Rattle.cellrun.proofs.Words.{has_operand, Command, Set, OrSet, Replace, UpdatePut, UpdateSomeAdd, Take, Get, arith, ◌≡◌, ℕ, ℤ, List, ◌++◌, Option, None, Some, true, IfSome, SomeIff, IsLine}
use Rattle.cellrun.proofs.Words.{IsNext, is_line_feed, first_line, after_line, Bad, ◌≢◌, ◌∷◌, refl, ◌+◌, ◌<◌, ◌≤◌, Bool, [], length, take, drop, if◌then◌else◌, append_assoc, append-nil, take_all}
use Rattle.cellrun.proofs.Words.{take-append-drop, drop_all, take-append-le, length-append, length-take, Keeps, IsAtEnd, prepend_known, nat_tests, position, position_or_len, Next, DropsConsumable}
use Rattle.cellrun.proofs.Words.{take-append-add, drop-append-add, prefix_len-append, prefix_len-le-length}
use Rattle.cellrun.specs.declared.lines.Next.TheVariants.{End}

-- the line ends with what is written after the words
pub read_some : {V : Type 0} (words line rest : List ℕ) (Is : List ℕ → Type 0) (of : List ℕ → V) (read : Option V) → line ≡ words ++ rest → SomeIff read (Is rest) (of rest)
    → IfSome read (λ v. (text : List ℕ) × (line ≡ words ++ text) × Is text × (v ≡ of text))
read_some words line rest Is of None is read = tt
read_some words line rest Is of (Some v) is read = (rest, is, read.0, read.1)

-- a line that is none of these is no call with an operand
pub none_of : (Is : Command → Type 0) → ((v : ℤ) → Is (Set v) → ⊥) → ((v : ℤ) → Is (OrSet v) → ⊥) → ((v : ℤ) → Is (Replace v) → ⊥) → ((v : ℤ) → Is (UpdatePut v) → ⊥)
    → ((v : ℤ) → Is (UpdateSomeAdd v) → ⊥) → ((w : ℕ) → Is (Take w) → ⊥) → ((w : ℕ) → Is (Get w) → ⊥) → (call : Command) → has_operand call ≡ true → Is call → ⊥
none_of Is set or_set replace put add take get call has is = grind (arith, set, or_set, replace, put, add, take, get)

-- the place of the first line feed, or the length
abbrev place : List ℕ → ℕ
place bytes = position_or_len is_line_feed bytes

-- what `position` returns
pub position_found : (bytes : List ℕ) (k : ℕ) → position is_line_feed bytes ≡ Some k → (k ≡ place bytes) × (place bytes < length bytes)
position_found bytes k e = grind (arith, nat_tests)

pub position_none : (bytes : List ℕ) → position is_line_feed bytes ≡ None → place bytes ≡ length bytes
position_none bytes e = grind (arith, nat_tests, prefix_len-le-length)

-- none in either is none in both
pub place_joined : (h f : List ℕ) → place h ≡ length h → place f ≡ length f → place (h ++ f) ≡ length (h ++ f)
place_joined h f held also = grind (arith, nat_tests, prefix_len-append, length-append)

-- bytes h with no line feed, and then bytes that begin with f: the line and what follows it
line_found : (h f t : List ℕ) → place h ≡ length h → place f < length f
    → (first_line (h ++ (f ++ t)) ≡ h ++ take (place f) f) × (after_line (h ++ (f ++ t)) ≡ drop (place f + 1) (f ++ t)) × (0 < length (h ++ (f ++ t)))
line_found h f t none some = grind (arith, nat_tests, prefix_len-append, take-append-add, take-append-le, drop-append-add, length-append)

-- with none in f the line is longer than both
first_line_long : (h f t : List ℕ) → place h ≡ length h → place f ≡ length f → length h + length f ≤ length (first_line (h ++ (f ++ t)))
first_line_long h f t none also = grind (arith, nat_tests, prefix_len-append, take-append-add, length-append, length-take)

-- the reader's known bytes begin with the front of what its buffer shows
known_front : (buffer : List ℕ) (n : ℕ) (ys : List ℕ) → buffer ++ ys ≡ take n buffer ++ (drop n buffer ++ ys)
known_front buffer n ys = rw (← append_assoc (take n buffer) (drop n buffer) ys, take-append-drop)

-- what a line that ends in f says of the bytes
next_of_line : (bytes line rest : List ℕ) (next : Next) → 0 < length bytes → first_line bytes ≡ line → after_line bytes ≡ rest → IsLine line next → IsNext bytes (Some rest) next
next_of_line bytes line rest next some e r h = grind arith

-- what is held and the front of the buffer are longer than a line, and have no line feed
pub bad_next : (h buffer f : List ℕ) (n : ℕ) (none : Bool) (old inner left : Option (List ℕ)) → f ≡ take n buffer → Keeps old (if none then None else prepend_known buffer inner)
    → place h ≡ length h → place f ≡ length f → 64 < length h + length f → IfSome (prepend_known h old) (λ bytes. IsNext bytes left Bad)
bad_next h buffer f n none old inner left e k held also long = grind (arith, known_front buffer n, first_line_long)

-- the front of the buffer has a line feed
pub line_next : (h buffer f : List ℕ) (n end : ℕ) (none : Bool) (old inner after : Option (List ℕ)) (next : Next) → f ≡ take n buffer
    → Keeps old (if none then None else prepend_known buffer inner) → place h ≡ length h → end ≡ place f → place f < length f
    → DropsConsumable (if none then None else prepend_known buffer inner) after (Some (length buffer)) (end + 1) → IsLine (h ++ take end f) next
    → IfSome (prepend_known h old) (λ bytes. IsNext bytes (prepend_known [] after) next)
line_next h buffer f n end none old inner after next e k held is in_bounds drops line = grind (arith, known_front buffer n, line_found, length-take, next_of_line)

-- the next line is the same if nothing was lost before
pub kept_next : (old now left : Option (List ℕ)) (next : Next) → Keeps old now → IfSome now (λ bytes. IsNext bytes left next) → IfSome old (λ bytes. IsNext bytes left next)
kept_next old now left next k h = grind arith

-- at the end of the bytes, what is held is the last line, if there is one
pub end_next : (h : List ℕ) (old : Option (List ℕ)) (next : Next) → place h ≡ length h → IsAtEnd old → (h ≢ [] → IsLine h next) → (h ≡ [] → next ≡ End)
    → IfSome (prepend_known h old) (λ bytes. IsNext bytes (Some []) next)
end_next h None next held at line end = tt
end_next [] (Some xs) next held at line end = rw (end refl) at
end_next (x ∷ h) (Some xs) next held at line end =
    rw (at, append-nil (x ∷ h))
    (next_of_line (x ∷ h) (x ∷ h) [] next (omega arith) (rw held (take_all (length (x ∷ h)) (x ∷ h) (omega arith))) (rw held (drop_all (length (x ∷ h) + 1) (x ∷ h) (omega arith))) (line (λ e. cc)))
