-- One more call of a predicate.
use Rattle.async_cell_latest_sync.proofs.Words.{IsFound, Refusal, Bool, false, ◌∷◌, Result, Ok, Err, Bor, Mut, CalledAt}

module _ {F T : Type 0} (calls : Mut F (Bor T × Unit {0}) Bool) (is_clone : T → T → Type 0) (holds : T → Type 0) where
  -- what is found after it was false was found before
  pub after_false : {f g : F} (value : T) → CalledAt calls f value false g
      → (answer : Result T Refusal) → IsFound calls is_clone holds g answer
      → IsFound calls is_clone holds f answer
  after_false {f} {g} value called (Ok copy) (why, (x, held, clone, (denied, p, q, folds, last))) = (why, (x, held, clone, (value ∷ denied, p, q, (g, called, folds), last)))
  after_false value called (Err why) found = (found.0, tt)
