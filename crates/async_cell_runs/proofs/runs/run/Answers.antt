use Rattle.std.proofs.Common.{rules, ◌≡◌, ◌≤◌, ◌+◌, ℕ, List, [], ◌∷◌, ◌++◌, length, vec_len, arith, ap, sym, ◌∙◌, append_assoc, append-nil, length-append}
use Rattle.std.proofs.lemmas.List.{nil_from_length}
use Rattle.std.specs.Vec.Iter.{into_iter_items}
use Rattle.async_cell_runs.proofs.{LongerRuns.{Told, told_more, told_none}, runs.run.Given.Over}
use Rattle.async_cell_runs.proofs.runs.run.Goals as goal

pub loop-call-init : goal.loop-call-init
loop-call-init g c = record {
  made = search rules;
  left = search rules;
  space = grind arith;
  told = told_none g.E.Edit.edit g.E.Edit.edit_some g.T.Clone.is_clone g.T.Clone.is_infallible g.W.Wakes.will_wake g.W.Wakes.SURE_CLONE c.args.core.now _ (search rules) c.soundness.ensures;
}

-- one call later: how many answers there are, and the space for those to come
one_more : {A : Type 0} (xs : List A) (x : A) (made more left less space : ℕ) → made ≡ length xs → made + left ≤ space → less + 1 ≡ left → more ≡ made + 1
    → (more ≡ length (xs ++ x ∷ [])) × (more + less ≤ space)
one_more xs x made more left less space is fits one pushed = (rw length-append (omega arith), omega arith)

pub loop-call-preserved : goal.loop-call-preserved
loop-call-preserved g c =
    let step = rw c.in-Some.is at c.next.ensures.steps in
    let here = c.loop-call.invariant in
    let call = c.step.ensures in
    let pushed = c.push_reserved.ensures in
    let count = one_more c.loop-call.yielded c.in-Some.call _ (vec_len c.push_reserved.new.self) _ _ _ here.made here.space step.1 pushed.len in record {
      made = count.0;
      left = rw (append_assoc, ← step.0) here.left;
      space = rw pushed.capacity count.1;
      told = told_more g.E.Edit.edit g.E.Edit.edit_some g.T.Clone.is_clone g.T.Clone.is_infallible g.W.Wakes.will_wake g.W.Wakes.SURE_CLONE
          c.args.core.now c.loop-call.core c.step.new.core c.loop-call.yielded c.loop-call.answers.items c.push_reserved.new.self.items c.in-Some.call c.step.result
          (sym c.loop-call.answers.ok.0 ∙ here.made) pushed.items here.told call.up_to_clones call.if_no_get call.copies;
    }

-- the loop has made all calls
all_made : (g : Over) (c : goal.After-drop-call-iterator g) → c.loop-call.yielded ≡ c.args.calls.items
all_made g c =
    let last = rw c.in-None.is at c.next.ensures.steps in
    let none : into_iter_items c.loop-call.call-iterator ≡ [] = nil_from_length _ (sym c.loop-call.call-iterator.rest.ok.0 ∙ last.0) in
    sym (append-nil c.loop-call.yielded) ∙ (rw none at c.loop-call.invariant.left)

-- what `run` promises of its answers
all_told : (g : Over) (c : goal.After-drop-call-iterator g) → Told g.E.Edit.edit g.E.Edit.edit_some g.T.Clone.is_clone g.T.Clone.is_infallible g.W.Wakes.will_wake g.W.Wakes.SURE_CLONE
    c.args.core.now c.args.calls.items c.loop-call.answers.items c.loop-call.core
all_told g c = rw (← all_made g c) c.loop-call.invariant.told

pub returns-clause-one_each : goal.returns-clause-one_each
returns-clause-one_each g c = c.loop-call.invariant.made ∙ ap length (all_made g c) ∙ sym c.args.calls.ok.0

pub returns-clause-up_to_clones : goal.returns-clause-up_to_clones
returns-clause-up_to_clones g c = (all_told g c).model

pub returns-clause-if_no_get : goal.returns-clause-if_no_get
returns-clause-if_no_get g c = (all_told g c).exact

pub returns-clause-copies : goal.returns-clause-copies
returns-clause-copies g c = (all_told g c).copied
