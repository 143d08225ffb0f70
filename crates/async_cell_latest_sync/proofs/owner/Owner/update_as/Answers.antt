use Rattle.async_cell_latest_sync.proofs.Words.{IfErr, ◌≡◌, sym, subst, FnOnceReturnsAt}
use Rattle.async_cell_latest_sync.proofs.owner.Owner.update_as.Goals as goal

-- the value that comes back is the one that was made
pub returns-in-Err-clause-comes_back : goal.returns-in-Err-clause-comes_back
returns-in-Err-clause-comes_back g c =
    let made = c.look-value.result in
    let back : c.in-Err.unused ≡ made = subst (λ it. IfErr it (λ unused. unused ≡ made)) (sym c.in-Err.ensures.answers) c.write-updated.ensures.comes_back in
    (_, subst (FnOnceReturnsAt g.F.FnOnce c.args.change _) (sym back) c.look-value.ensures.called)
