-- The names that a session knows, through each call, and what a call prints.
use Rattle.cellrun.proofs.Words.{nat_tests, skips, State, waker_of, Does, Kept, Reply, same_name, Named, kept_call, Command, Take, Get, arith, ◌≡◌, ℕ, ℤ, Bool, true, false, List, [], ◌∷◌, ◌++◌}
use Rattle.cellrun.proofs.Words.{Option, None, Some, IfSome, if◌then◌else◌, nat_cmp, BTreeSet, contains, Updates, list_any-append, Cell, KnowsNames, owners_of, CallPrints, reply_text, value_text}
use Rattle.cellrun.proofs.Words.{names_text, end_text, Replace, OrSet, Own, End, Debug, codes, refl}
use Rattle.async_cell_model.specs.declared.reply.Reply.TheVariants.{Done, Value}

-- where nobody waits, any names will do
pub nobody : (waiting : List Named) (names : BTreeSet ℕ) (all : Bool) → waiting ≡ [] → KnowsNames waiting names all
nobody waiting names all none = record { each = λ _ name skipped. absurd (cc (rw none at skipped)) }

-- nor need they be all
pub not_known : (waiting : List Named) (names : BTreeSet ℕ) (all : Bool) → all ≡ false → KnowsNames waiting names all
not_known waiting names all is = record { each = λ so name skipped. absurd (cc (rw is at so)) }

-- a name that is not known is none that waits
pub no_skip : (waiting : List Named) (names : BTreeSet ℕ) (all : Bool) (name : ℕ) → KnowsNames waiting names all → all ≡ true → contains nat_cmp names name ≡ false
    → skips same_name waiting (record { 0 = name }) ≡ false
no_skip waiting names all name known is absent = grind (arith, known.each is name)

-- one name more
pub noted : (waiting : List Named) (old new : BTreeSet ℕ) (all : Bool) (name : ℕ) → KnowsNames waiting old all → Updates nat_cmp old new name true → KnowsNames waiting new all
noted waiting old new all name known updates = record { each = λ so q skipped. grind (arith, known.each so q, updates.0 q) }

-- one waits more whose name is known
polled_by : (skipped : Bool) (before : List Named) (names : BTreeSet ℕ) (all : Bool) (name : ℕ) → KnowsNames before names all → (all ≡ true → contains nat_cmp names name ≡ true)
    → KnowsNames (if skipped then before else before ++ record { 0 = name } ∷ []) names all
polled_by true before names all name known has = known
polled_by false before names all name known has = record {
  each = λ so q skipped. grind (arith, nat_tests, list_any-append (λ v. same_name v (record { 0 = q })) before (record { 0 = name } ∷ []), known.each so q, has so);
}

-- after a call, if the name of its waker is known
pub known_after : (from to : State ℤ Named) (call : Kept ℤ Named) (reply : Reply ℤ) (woken : List Named) (names : BTreeSet ℕ) (all : Bool)
    → KnowsNames from.waiting names all → Does same_name true from (record { call = call; reply = reply }) woken to
    → ((name : ℕ) → waker_of call ≡ Some (record { 0 = name }) → all ≡ true → contains nat_cmp names name ≡ true) → KnowsNames to.waiting names all
known_after from to call reply woken names all known does has = grind (arith, nobody, polled_by, has)

-- the same by its waker
pub known_if : (from to : State ℤ Named) (call : Kept ℤ Named) (reply : Reply ℤ) (woken : List Named) (names : BTreeSet ℕ) (all : Bool)
    → KnowsNames from.waiting names all → Does same_name true from (record { call = call; reply = reply }) woken to
    → (waker : Option Named) → waker_of call ≡ waker → IfSome waker (λ w. all ≡ true → contains nat_cmp names w.0 ≡ true) → KnowsNames to.waiting names all
known_if from to call reply woken names all known does waker is has = grind (arith, known_after)

-- only a poll has a waker
pub no_waker : (cell : Cell ℤ) (call : Command) → ((w : ℕ) → call ≡ Take w → ⊥) → ((w : ℕ) → call ≡ Get w → ⊥) → waker_of (kept_call cell call) ≡ None
no_waker cell call take get = grind (arith, take, get)

-- what a call prints that is no `debug`
pub prints : (from to : State ℤ Named) (call : Command) (reply : Reply ℤ) (woken : List Named) (line : List ℕ) → (call ≡ Debug → ⊥)
    → Does same_name true from (record { call = kept_call from.cell call; reply = reply }) woken to → line ≡ reply_text reply call (owners_of to.cell) ++ end_text woken → CallPrints from call line to
prints from to Debug reply woken line other does is = absurd (other refl)
prints from to call reply woken line other does is = (reply, woken, does, is)

pub some_named : (woken : List Named) → (woken ≡ [] → ⊥) → end_text woken ≡ codes " woke" ++ names_text woken ++ codes "\n"
some_named woken some = grind (arith, some)

pub done_text : (call : Command) (owners : ℕ) → (call ≡ Own → ⊥) → reply_text Done call owners ≡ codes "done"
done_text call owners other = grind (arith, other)

pub found_text : (call : Command) (owners : ℕ) (found : Option ℤ) → ((v : ℤ) → call ≡ Replace v → ⊥) → ((v : ℤ) → call ≡ OrSet v → ⊥) → (call ≡ End → ⊥)
    → reply_text (Value found) call owners ≡ value_text (codes "some ") (codes "none") found
found_text call owners found replace or_set end = grind (arith, replace, or_set, end)
