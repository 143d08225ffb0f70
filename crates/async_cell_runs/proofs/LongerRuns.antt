-- Runs that are longer: by another run, and by one call.
use Rattle.async_cell_model.proofs.Words.{◌≡◌, Bool, true, false, List, [], ◌∷◌, ◌++◌, length, Option, refl, ap, sym, subst, ◌∙◌, arith, list_any, list_any-append}
use Rattle.async_cell_model.proofs.Words.{content, next, State, Does, DoesUpTo, Exactly, UpToClones, is_copy, copies, History, cell_after, IsSound, Runs, RunsUpTo, RunsBy}
use Rattle.async_cell_model.proofs.{JoinedHistory.after_none, LegalHistories.Runs-join-by, Machine.{model_of, model_up_to}}
use Rattle.std.specs.Prelude.{IfSome, map}
use Rattle.std.proofs.lemmas.List.{length-map, map-append}
use Rattle.async_cell_model.specs.declared.{cell.Cell.Cell, entry.Entry.Entry, entry.Kept.Kept, reply.Reply.Reply}
use Rattle.async_cell_core.specs.{declared.answer.Answer.Answer, Polled.IsCopied}
use Rattle.async_cell_runs.specs.{declared.call.Call.Call, Kept.{is_get, kept_call, history_of, GetsAreCopied}}

module _ {T W E : Type 0} (edit : E → Option T → Option T) (edit_some : E → T → T) where
  -- the calls of two lists, one after the other
  history_of-append : (c : Cell T) (calls more : List (Call T W E)) (replies others : List (Reply T)) → length replies ≡ length calls
      → history_of edit edit_some c (calls ++ more) (replies ++ others)
      ≡ history_of edit edit_some c calls replies ++ history_of edit edit_some (cell_after c (history_of edit edit_some c calls replies)) more others
  history_of-append c [] more [] others same = refl
  history_of-append c [] more (r ∷ replies) others same = absurd (omega arith)
  history_of-append c (x ∷ calls) more [] others same = absurd (omega arith)
  history_of-append c (x ∷ calls) more (r ∷ replies) others same =
      let e : Entry T W = record { call = kept_call edit edit_some c x; reply = r } in
      ap (λ (h : History T W). e ∷ h) (history_of-append (next c e) calls more replies others (omega arith))

  -- two runs, one after the other, are one
  pub two_runs : (MayReply : Kept T W → Reply T → Reply T → Type 0) (will_wake : W → W → Bool) (sure : Bool) (from at to : State T W)
      (calls more : List (Call T W E)) (replies others : List (Reply T)) (first second : List (List W)) → length replies ≡ length calls
      → RunsBy MayReply will_wake sure from (history_of edit edit_some from.cell calls replies) first at
      → RunsBy MayReply will_wake sure at (history_of edit edit_some at.cell more others) second to
      → RunsBy MayReply will_wake sure from (history_of edit edit_some from.cell (calls ++ more) (replies ++ others)) (first ++ second) to
  two_runs MayReply will_wake sure from at to calls more replies others first second same before after =
      let there = subst (λ (c : Cell T). RunsBy MayReply will_wake sure at (history_of edit edit_some c more others) second to) before.cell_is after in
      rw (history_of-append from.cell calls more replies others same) (Runs-join-by MayReply will_wake sure from at to _ _ _ _ before there)

  module _ (is_clone : T → T → Type 0) (is_infallible : T → Type 0) (will_wake : W → W → Bool) (sure : Bool) where
    -- what `run` promises of these answers to these calls
    pub record Told (from : State T W) (calls : List (Call T W E)) (answers : List (Answer T W)) (to : State T W) : Type 0 where
      pub model : RunsUpTo will_wake sure is_clone from (history_of edit edit_some from.cell calls (map (λ a. a.reply) answers)) (map (λ a. a.woken) answers) to
      pub exact : list_any is_get calls ≡ false → Runs will_wake sure from (history_of edit edit_some from.cell calls (map (λ a. a.reply) answers)) (map (λ a. a.woken) answers) to
      pub copied : GetsAreCopied is_clone is_infallible from.cell (history_of edit edit_some from.cell calls (map (λ a. a.reply) answers))

    -- no call
    pub told_none : (from : State T W) (answers : List (Answer T W)) → answers ≡ [] → IsSound will_wake from → Told from [] answers from
    told_none from answers none sound = rw none (record { model = grind (arith, after_none); exact = λ _. grind (arith, after_none); copied = tt })

    copy_is : (c : Cell T) (call : Call T W E) → is_copy (kept_call edit edit_some c call) ≡ is_get call
    copy_is c call = grind arith

    -- a history whose gets are copied, and one entry more
    gets_more : (c : Cell T) (g : History T W) (e : Entry T W) → GetsAreCopied is_clone is_infallible c g
        → (copies e ≡ true → IfSome (content (cell_after c g)) (λ v. IsCopied is_clone is_infallible v e.reply)) → GetsAreCopied is_clone is_infallible c (g ++ e ∷ [])
    gets_more c [] e all one = (one, tt)
    gets_more c (x ∷ g) e all one = (all.0, gets_more (next c x) g e all.1 one)

    -- one call more
    pub told_more : (from at to : State T W) (calls : List (Call T W E)) (answers longer : List (Answer T W)) (call : Call T W E) (a : Answer T W)
        → length answers ≡ length calls → longer ≡ answers ++ a ∷ [] → Told from calls answers at
        → DoesUpTo will_wake sure is_clone at (record { call = kept_call edit edit_some at.cell call; reply = a.reply }) a.woken to
        → (is_get call ≡ false → Does will_wake sure at (record { call = kept_call edit edit_some at.cell call; reply = a.reply }) a.woken to)
        → (is_get call ≡ true → IfSome (content at.cell) (λ v. IsCopied is_clone is_infallible v a.reply)) → Told from (calls ++ call ∷ []) longer to
    told_more from at to calls answers longer call a same is_longer told does exactly copied =
        let replied = length-map answers (λ a. a.reply) ∙ same in
        let replies = map-append (λ a. a.reply) answers (a ∷ []) in
        let woken = map-append (λ a. a.woken) answers (a ∷ []) in
        let copies_it = subst (λ (c : Cell T). is_get call ≡ true → IfSome (content c) (λ v. IsCopied is_clone is_infallible v a.reply)) told.model.cell_is copied in rw is_longer (record {
          model = rw (replies, woken) (two_runs (UpToClones is_clone) will_wake sure from at to calls _ _ _ _ _ replied told.model (model_up_to is_clone will_wake sure at to _ _ _ does));
          exact = λ none. rw (replies, woken) (two_runs Exactly will_wake sure from at to calls _ _ _ _ _ replied
              (told.exact (grind (arith, list_any-append))) (model_of will_wake sure at to _ _ _ (exactly (grind (arith, list_any-append)))));
          copied = rw (replies, history_of-append from.cell calls (call ∷ []) _ _ replied) (gets_more from.cell _ _ told.copied (λ is. copies_it (sym (copy_is _ call) ∙ is)));
        })
