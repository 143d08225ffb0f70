-- Histories that are legal up to clones, and exact ones.
use Rattle.async_cell_model.proofs.Words.{arith, ◌≡◌, Bool, true, List, [], ◌∷◌, ◌++◌, refl, list_any, Kept, Reply, State, IsCloned, UpToClones, is_copy}
use Rattle.async_cell_model.proofs.Words.{History, after, MayFollowBy, Exactly, Entry, IsExact, copies, IsLegalAfterBy, IsLegalAfter, Runs, RunsUpTo}
use Rattle.std.proofs.Math.Bool.{or-true}

module _ {T W : Type 0} (is_clone : T → T → Type 0) where
  -- a reply with an exact clone is the cell's own, and a call that copies nothing gives no clone
  cloned_same : (call : Kept T W) (r s : Reply T) → (is_copy call ≡ true → IsExact is_clone) → IsCloned is_clone call r s → s ≡ r
  cloned_same call r s exact cloned = grind (arith, exact)

  module _ (will_wake : W → W → Bool) (sure : Bool) where
    follows_exactly : (at : State T W) (e : Entry T W) → (copies e ≡ true → IsExact is_clone) → MayFollowBy (UpToClones is_clone) will_wake sure at e → MayFollowBy Exactly will_wake sure at e
    follows_exactly at e exact may = grind (arith, cloned_same)

    -- a history that is legal up to clones is exact where the clones are, or where nothing is copied
    pub legal_told : (b : State T W) (h rest : History T W) → (list_any copies rest ≡ true → IsExact is_clone)
        → IsLegalAfterBy (UpToClones is_clone) will_wake sure b h rest → IsLegalAfter will_wake sure b h rest
    legal_told b h [] exact legal = tt
    legal_told b h (e ∷ rest) exact legal = (
      follows_exactly (after will_wake b h) e (λ copied. exact (rw copied refl)) legal.0,
      legal_told b (h ++ e ∷ []) rest (λ copied. exact (rw copied (or-true (copies e)))) legal.1,
    )

    -- an exact history is legal up to clones
    pub legal_up_to : (b : State T W) (h rest : History T W) → IsLegalAfter will_wake sure b h rest → IsLegalAfterBy (UpToClones is_clone) will_wake sure b h rest
    legal_up_to b h [] legal = tt
    legal_up_to b h (e ∷ rest) legal = (grind (arith, legal.0), legal_up_to b (h ++ e ∷ []) rest legal.1)

    -- a history up to clones is exact where the clones are, or where nothing is copied
    pub exact_told : (from to : State T W) (h : History T W) (woken : List (List W))
        → (list_any copies h ≡ true → IsExact is_clone)
        → RunsUpTo will_wake sure is_clone from h woken to → Runs will_wake sure from h woken to
    exact_told from to h woken exact leads = grind (arith, legal_told)

    -- an exact history is one up to clones
    pub up_to_clones : (from to : State T W) (h : History T W) (woken : List (List W))
        → Runs will_wake sure from h woken to → RunsUpTo will_wake sure is_clone from h woken to
    up_to_clones from to h woken leads = grind (arith, legal_up_to)
