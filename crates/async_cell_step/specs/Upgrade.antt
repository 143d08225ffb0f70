-- Why a weak pointer makes no owner.
use Rattle.std.specs.Prelude.{◌≡◌, ◌⊎◌, Result, IfErr}
use Rattle.async_cell_model.specs.declared.refusal.Refusal.{Refusal}
use Rattle.async_cell_model.specs.declared.refusal.Refusal.TheVariants.{Memory, OwnersFull}

module _ {A : Type 0} where
  -- an upgrade fails with Memory or OwnersFull, and with nothing else
  abbrev pub FailsToUpgrade : Result A Refusal → Type 0
  FailsToUpgrade result = IfErr result (λ why. (why ≡ Memory) ⊎ (why ≡ OwnersFull))
