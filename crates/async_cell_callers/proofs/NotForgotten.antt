-- A poll that waits is not forgotten.
use Rattle.std.proofs.Common.{◌≡◌, ◌⊎◌, ◌++◌, Bool, true, false, [], ◌∷◌, Option, refl, ap, sym, subst, ◌∙◌, inl, inr, append_assoc}
use Rattle.async_cell_core.specs.IsStep.{WakerRules}
use Rattle.async_cell_model.specs.declared.entry.Entry.{Entry}
use Rattle.async_cell_model.specs.declared.entry.Kept.TheVariants.{PollTake, Set}
use Rattle.async_cell_model.specs.declared.reply.Reply.TheVariants.{Done, Pending}
use Rattle.async_cell_model.specs.History.{History, IsCovered, cell_after, has_fill_or_close}
use Rattle.async_cell_history.specs.History.{Begun, IsLinearized, StillWaits, start_of}
use Rattle.async_cell_callers.specs.Waits.{IsNotForgotten}

-- it is so, or what follows from that it is not so
so_or : (b : Bool) {A : Type 0} → (b ≡ false → A) → (b ≡ true) ⊎ A
so_or true else = inl refl
so_or false else = inr (else refl)

pub not_forgotten : {T W : Type 0} (rules : WakerRules W) (named : Option (Begun T W)) (w : W) (v : T) (seen polled now : History T W) → IsLinearized rules named seen (PollTake w) Pending polled
    → (told : IsLinearized rules named polled (Set v) Done now) → (StillWaits (start_of named).cell w told.before → IsCovered rules.will_wake told.woken w)
    → IsNotForgotten rules named w (Set v) Done now
not_forgotten {T} {W} rules named w v seen polled now poll told wakes =
    let start = (start_of named).cell in
    let e : Entry T W = record { call = PollTake w; reply = Pending } in
    let between : History T W = told.goes_on.0 in
    let still : has_fill_or_close (cell_after start polled) between ≡ false → StillWaits start w told.before = λ none. record {
      before = poll.before;
      poll = e;
      later = between;
      split = sym told.goes_on.1 ∙ ap (λ (h : History T W). h ++ between) poll.ends ∙ append_assoc poll.before (e ∷ []) between;
      pending = refl;
      none = subst (λ (h : History T W). has_fill_or_close (cell_after start h) between ≡ false) poll.ends none;
    } in
    record {
      polled = polled;
      told = told;
      between = between;
      split = sym told.goes_on.1;
      waits = record { before = poll.before; poll = e; later = []; split = poll.ends; pending = refl; none = refl };
      woken = so_or (has_fill_or_close (cell_after start polled) between) (λ none. wakes (still none));
    }
