-- No waiting poll is forgotten: its waker waits at the end of the history, or the first fill or
-- close after it wakes it.
use Rattle.async_cell_history.proofs.Words.{◌≡◌, Bool, true, List, [], ◌∷◌, ◌++◌, Option, refl, sym, subst, ◌∙◌, arith, Entry, Kept, Set, Reply, Done, State, IsSound}
use Rattle.async_cell_history.proofs.Words.{ends_waiting, is_vacant, History, IsCovered, after, cell_after, waiting, IsLegal, IsLegalUpTo, NoClone, legal_of_exact}
use Rattle.async_cell_history.proofs.Words.{stays_covered, IsLegalAfter-first, WakerRules, Begun, IsLawful, IsLinearized, StillWaits, start_of}

-- who still waits is in the wait list before the call, or somebody who would wake it
waits_there : {T W : Type 0} (rules : WakerRules W) (may : Kept T W → Type 0) (named : Option (Begun T W)) (seen now : History T W) (call : Kept T W) (reply : Reply T) (w : W)
    (told : IsLinearized rules named seen call reply now) → IsLawful rules.will_wake rules.SURE_CLONE may (start_of named) now
    → StillWaits (start_of named).cell w told.before → IsCovered rules.will_wake (waiting rules.will_wake (start_of named) told.before) w
waits_there {T} {W} rules may named seen now call reply w told lawful waits =
    let will_wake = rules.will_wake in let sure = rules.SURE_CLONE in let start : State T W = start_of named in
    let e : Entry T W = record { call = call; reply = reply } in
    let legal : IsLegalUpTo will_wake sure NoClone start (told.before ++ e ∷ []) =
    legal_of_exact will_wake sure start _ (subst (λ (h : History T W). IsLegal will_wake sure start h) told.ends lawful.legal) in
    let before = IsLegalAfter-first NoClone will_wake sure start [] told.before (e ∷ []) legal in
    subst (λ (h : History T W). IsCovered will_wake (waiting will_wake start h) w) (sym waits.split)
    (stays_covered NoClone will_wake sure start waits.before waits.later waits.poll w (subst (λ (h : History T W). IsLegalUpTo will_wake sure NoClone start h) waits.split before) waits.pending
    waits.none)

-- what fills or closes the cell wakes it
pub wakes : {T W : Type 0} (rules : WakerRules W) (may : Kept T W → Type 0) (named : Option (Begun T W)) (seen now : History T W) (call : Kept T W) (reply : Reply T) (w : W)
    (told : IsLinearized rules named seen call reply now) → IsLawful rules.will_wake rules.SURE_CLONE may (start_of named) now
    → StillWaits (start_of named).cell w told.before → ends_waiting (cell_after (start_of named).cell told.before) (cell_after (start_of named).cell now) ≡ true
    → IsCovered rules.will_wake told.woken w
wakes {T} {W} rules may named seen now call reply w told lawful waits ends =
    subst (λ (ws : List W). IsCovered rules.will_wake ws w) (sym (told.does.woken_are ∙ rw ends refl)) (waits_there rules may named seen now call reply w told lawful waits)

-- who waits at a cell waits at a vacant one
vacant_if : {T W : Type 0} (will_wake : W → W → Bool) (at : State T W) (w : W) → IsSound will_wake at → IsCovered will_wake at.waiting w → is_vacant at.cell ≡ true
vacant_if will_wake at w sound covered = grind (arith, sound.waits_vacant)

-- a `set` that was done wakes who waits
pub set_wakes : {T W : Type 0} (rules : WakerRules W) (may : Kept T W → Type 0) (named : Option (Begun T W)) (seen now : History T W) (v : T) (w : W)
    (told : IsLinearized rules named seen (Set v) Done now) → IsLawful rules.will_wake rules.SURE_CLONE may (start_of named) now
    → StillWaits (start_of named).cell w told.before → IsCovered rules.will_wake told.woken w
set_wakes {T} {W} rules may named seen now v w told lawful waits =
    let at : State T W = after rules.will_wake (start_of named) told.before in
    let vacant = vacant_if rules.will_wake at w told.does.sound (waits_there rules may named seen now (Set v) Done w told lawful waits) in
    let ends : ends_waiting at.cell (cell_after (start_of named).cell now) ≡ true = grind (arith, vacant, told.does.cell_is) in
    wakes rules may named seen now (Set v) Done w told lawful waits ends
