use Rattle.async_cell_driver.proofs.Words.{DriverState, result_at, Drives, line_of, Poll, Ready, Some, [], ap, refl, subst, sym, ◌∙◌, ◌∷◌, err_from_is_err_and}
use Rattle.async_cell_driver.specs.declared.event.Told.TheVariants as told
use Rattle.async_cell_driver.proofs.{Settled.covered_keeping, Settled.drives_keeping, Settled.keeps_one, Settled.one_refused}
use Rattle.async_cell_driver.proofs.driver.Driver.poll_and_keep.Goals as goal

pub invariant_of-self : goal.invariant_of-self
invariant_of-self g c =
    rw c.replace_result.ensures.once (covered_keeping c.args.i (Some c.in-Ready.content) (record { core = c.self.inside.core; tasks = c.self.inside.tasks }) c.self.invariant)

pub returns-in-Ready-clause-settles : goal.returns-in-Ready-clause-settles
returns-in-Ready-clause-settles g c =
    let at : DriverState g.row.T.Denot = record { core = c.self.inside.core; tasks = c.self.inside.tasks } in
    let E = g.T.Clone.is_clone in
    let answer = told.Polled (Ready c.in-Ready.content) in
    let polled : Drives E c.args.self.now (line_of c.args.self.now (Poll c.args.i) answer ∷ []) at =
    subst (λ (s : DriverState g.row.T.Denot). Drives E c.args.self.now (line_of c.args.self.now (Poll c.args.i) answer ∷ []) s) (sym c.self.view_is)
    ((rw c.in-Ready.is at c.in_ok-content.ensures.drives)) in (
      answer,
      record {
        drives = rw c.replace_result.ensures.once (drives_keeping E c.args.i (Some c.in-Ready.content) c.args.self.now at _ polled);
        told = refl;
        keeps = rw c.replace_result.ensures.once (keeps_one c.args.self.now at c.args.i c.in-Ready.content c.requires polled.kinds_are
            (λ j. ap (λ (s : DriverState g.row.T.Denot). result_at s.tasks j) c.self.view_is ∙ c.in_ok-content.ensures.results_stay j));
      },
    )

pub returns-in_err-content-clause-settles : goal.returns-in_err-content-clause-settles
returns-in_err-content-clause-settles g c =
    let p = err_from_is_err_and c.from_residual.result c.from_residual.ensures.1 in
    let why = c.in_err-content.field-0.0 in
    rw (p.1, p.2) (told.Refused why, one_refused g.T.Clone.is_clone c.args.self.now c.poll.new.self c.args.i why c.in_err-content.ensures.results_stay c.in_err-content.ensures.drives)
