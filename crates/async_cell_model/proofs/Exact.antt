-- Exact histories are those up to a relation in which nothing is a clone: so each law up to clones
-- is one of exact histories, too.
use Rattle.async_cell_model.proofs.Words.{Bool, List, [], State, History, IsLegal, IsLegalUpTo, Runs, RunsUpTo}
use Rattle.async_cell_model.proofs.UpTo.{legal_told, legal_up_to, up_to_clones}

-- nothing is a clone
abbrev pub NoClone : {T : Type 0} → T → T → Type 0
NoClone a b = ⊥

module _ {T W : Type 0} (will_wake : W → W → Bool) (sure : Bool) where
  pub legal_of_exact : (b : State T W) (h : History T W) → IsLegal will_wake sure b h → IsLegalUpTo will_wake sure NoClone b h
  legal_of_exact b h legal = legal_up_to NoClone will_wake sure b [] h legal

  pub exact_of_legal : (b : State T W) (h : History T W) → IsLegalUpTo will_wake sure NoClone b h → IsLegal will_wake sure b h
  exact_of_legal b h legal = legal_told NoClone will_wake sure b [] h (λ copied x y none. absurd none) legal

  pub leads_of_exact : (from to : State T W) (h : History T W) (woken : List (List W)) → Runs will_wake sure from h woken to → RunsUpTo will_wake sure NoClone from h woken to
  leads_of_exact from to h woken leads = up_to_clones NoClone will_wake sure from to h woken leads
