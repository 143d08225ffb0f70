use Rattle.std.proofs.Common.{rules, ◌≡◌, Some, refl}
use Rattle.async_cell_model.specs.Machine.{content}
use Rattle.async_cell_core.proofs.cell_core.Core.peek.Goals as goal

pub returns-in-Some-clause-called : goal.returns-in-Some-clause-called
returns-in-Some-clause-called g c =
    let full : content c.args.self.now.cell ≡ Some c.in-Some.value = search rules in
    rw full ((_, c.look.ensures, refl))
