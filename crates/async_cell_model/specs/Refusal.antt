-- Why calls are refused.
use Rattle.std.specs.Prelude.{◌≡◌, ◌⊎◌, Result, IfErr}
use Rattle.async_cell_model.specs.declared.refusal.Refusal.{Refusal}
use Rattle.async_cell_model.specs.declared.refusal.Refusal.TheVariants.{Memory, Closed, OwnersFull}
use Rattle.std.specs.declared.io.ErrorKind.{ErrorKind}
use Rattle.std.specs.declared.io.ErrorKind.TheVariants.{OutOfMemory, Other}

-- the kind of the error of input and output that stands for a refusal
abbrev pub io_kind : Refusal → ErrorKind
io_kind Memory = OutOfMemory
io_kind _ = Other

-- why a new owner is refused
abbrev pub IsOwnerRefusal : Refusal → Type 0
IsOwnerRefusal why = (why ≡ Memory) ⊎ ((why ≡ OwnersFull) ⊎ (why ≡ Closed))

module _ {A : Type 0} where
  -- the call fails with Memory, if it fails
  abbrev pub FailsWithMemory : Result A Refusal → Type 0
  FailsWithMemory answer = IfErr answer (λ why. why ≡ Memory)

  -- the call fails with Closed, if it fails
  abbrev pub FailsWithClosed : Result A Refusal → Type 0
  FailsWithClosed answer = IfErr answer (λ why. why ≡ Closed)

  -- the call fails with Memory or Closed, if it fails
  abbrev pub FailsWithMemoryOrClosed : Result A Refusal → Type 0
  FailsWithMemoryOrClosed answer = IfErr answer (λ why. (why ≡ Memory) ⊎ (why ≡ Closed))
