-- How the outputs of futures fill up, poll by poll.
use Rattle.std.proofs.Common.{◌≡◌, ℕ, suc, ◌<◌, All, List, length, Option, Some, None, IfNone, IfSome, IsSome, get_or, set, replicate, refl, sym, ◌∙◌, subst, length-set, get_or-set_same, get_or-set_other, ⊎_elim, arith}
use Rattle.std.proofs.lemmas.Bool.{cases_eq, cases_lt}
use Rattle.std.proofs.lemmas.List.{get_or_default, get_or_past, get_or-replicate, length-replicate}
use Rattle.futures.specs.Outputs.{EachResumes}
use Rattle.async_cell_within.specs.Each.{EachGiven, EachLate, EachLateGives, EachFills, Fills}

-- each of the first n futures has an output
abbrev pub ReadyTo : {A : Type 0} → ℕ → List (Option A) → Type 0
ReadyTo n ys = (k : ℕ) (d : _) → k < n → IsSome (get_or ys k d)

-- the next one has an output as well
pub ready_to_next : {A : Type 0} (ys : List (Option A)) (at : ℕ) (z : Option A)
    → at < length ys → ReadyTo at ys → IsSome z → ReadyTo (suc at) (set ys at z)
ready_to_next ys at z within earlier here k d inside = ⊎_elim
    (λ same. subst (λ (n : ℕ). IsSome (get_or (set ys at z) n d)) (sym same) (subst (λ (y : Option _). IsSome y) (sym (get_or-set_same ys at z d within)) here))
    (λ differs. rw (get_or-set_other ys at k z d differs) (earlier k d (omega arith)))
    (cases_eq k at)

module _ {F A : Type 0} (can : F → Type 0) (gives : F → A → Type 0) where
  stays : (f : F) (a : Option A) → IfNone a (can f) → Fills can gives f a f a
  stays f None late = (late, λ x given. given)
  stays f (Some x) late = refl

  goes_on : (f : F) (a : Option A) (g : F) (b : Option A) (h : F) (c : Option A)
      → Fills can gives f a g b → Fills can gives g b h c → Fills can gives f a h c
  goes_on f (Some x) g b h c first second = subst (λ (it : Option A). Fills can gives g it h c) first second
  goes_on f None g (Some y) h c first second = subst (λ (it : Option A). Fills can gives f None h it) (sym second) first
  goes_on f None g None h None first second = (second.0, λ x given. first.1 x (second.1 x given))
  goes_on f None g None h (Some x) first second = first.1 x second

  late : (f : F) (a : Option A) (g : F) (b : Option A) → Fills can gives f a g b → IfNone b (can g)
  late f (Some x) g b fills = subst (λ (it : Option A). IfNone it (can g)) (sym fills) tt
  late f None g None fills = fills.0
  late f None g (Some x) fills = tt

  pub each_stays : (fs : List F) (xs : List (Option A)) → length xs ≡ length fs → EachLate can fs xs
      → EachFills can gives fs xs fs xs
  each_stays fs xs same lates = record { futures = refl; outputs = same; each = λ k d inside. stays (get_or fs k d) (get_or xs k None) (lates k d inside) }

  pub each_goes_on : (fs : List F) (xs : List (Option A)) (gs : List F) (ys : List (Option A)) (hs : List F) (zs : List (Option A))
      → EachFills can gives fs xs gs ys → EachFills can gives gs ys hs zs → EachFills can gives fs xs hs zs
  each_goes_on fs xs gs ys hs zs first second = record {
    futures = second.futures ∙ first.futures;
    outputs = second.outputs ∙ first.futures;
    each = λ k d inside. goes_on (get_or fs k d) (get_or xs k None) (get_or gs k d) (get_or ys k None) (get_or hs k d) (get_or zs k None)
        (first.each k d inside) (second.each k d (subst (λ (n : ℕ). k < n) (sym first.futures) inside));
  }

  pub each_late : (fs : List F) (xs : List (Option A)) (gs : List F) (ys : List (Option A))
      → EachFills can gives fs xs gs ys → EachLate can gs ys
  each_late fs xs gs ys fills k d inside =
      late (get_or fs k d) (get_or xs k None) (get_or gs k d) (get_or ys k None) (fills.each k d (subst (λ (n : ℕ). k < n) fills.futures inside))

  -- one of them is polled once more
  pub each_set : (fs : List F) (xs : List (Option A)) (gs : List F) (ys : List (Option A)) (at : ℕ) (g h : F) (y z : Option A)
      → EachFills can gives fs xs gs ys → at < length fs → g ≡ get_or gs at g → y ≡ get_or ys at y → Fills can gives g y h z
      → EachFills can gives fs xs (set gs at h) (set ys at z)
  each_set fs xs gs ys at g h y z fills within was output turn =
      let in_gs : at < length gs = subst (λ (n : ℕ). at < n) (sym fills.futures) within in
      let in_ys : at < length ys = subst (λ (n : ℕ). at < n) (sym fills.outputs) within in
      let y_is : y ≡ get_or ys at None = output ∙ get_or_default ys at y None in_ys in
      let here : (d : F) → Fills can gives (get_or fs at d) (get_or xs at None) (get_or (set gs at h) at d) (get_or (set ys at z) at None) = λ d.
      let g_is : g ≡ get_or gs at d = was ∙ get_or_default gs at g d in_gs in
      let before : Fills can gives (get_or fs at d) (get_or xs at None) g y = rw (g_is, y_is) (fills.each at d within) in
      rw (get_or-set_same gs at h d in_gs, get_or-set_same ys at z None in_ys) (goes_on (get_or fs at d) (get_or xs at None) g y h z before turn) in
      record {
        futures = length-set gs at h ∙ fills.futures;
        outputs = length-set ys at z ∙ fills.outputs;
        each = λ k d inside. ⊎_elim
            (λ same. subst (λ (n : ℕ). Fills can gives (get_or fs n d) (get_or xs n None) (get_or (set gs at h) n d) (get_or (set ys at z) n None)) (sym same) (here d))
            (λ differs. rw (get_or-set_other gs at k h d differs, get_or-set_other ys at k z None differs) (fills.each k d inside))
            (cases_eq k at);
      }

  given : (f g : F) (b : Option A) → Fills can gives f None g b → IfSome b (gives f)
  given f g (Some x) fills = fills
  given f g None fills = tt

  narrows : (f g : F) (b : Option A) → Fills can gives f None g b
      → IfNone b ((x : A) → gives g x → gives f x)
  narrows f g (Some x) fills = tt
  narrows f g None fills = fills.1

  -- what is known where no output was there before
  module _ (fs : List F) (n : ℕ) (gs : List F) (ys : List (Option A)) (fills : EachFills can gives fs (replicate n None) gs ys) where
    blank : (k : ℕ) → get_or {A = Option A} (replicate n None) k None ≡ None
    blank k = ⊎_elim (λ below. get_or-replicate n k None None below) (λ past. get_or_past (replicate n None) k None (rw length-replicate past)) (cases_lt k n)

    at : (k : ℕ) (d : F) → k < length fs → Fills can gives (get_or fs k d) None (get_or gs k d) (get_or ys k None)
    at k d inside = subst (λ (it : Option A). Fills can gives (get_or fs k d) it (get_or gs k d) (get_or ys k None)) (blank k) (fills.each k d inside)

    pub each_given : EachGiven gives fs ys
    each_given k d inside = given (get_or fs k d) (get_or gs k d) (get_or ys k None) (at k d inside)

    pub each_narrows : EachLateGives gives fs gs ys
    each_narrows k d inside = narrows (get_or fs k d) (get_or gs k d) (get_or ys k None) (at k d inside)

    -- and none came
    module _ (none : All (λ y. y ≡ None) ys) where
      none_at : (k : ℕ) → k < length fs → get_or ys k None ≡ None
      none_at k inside = none k None (subst (λ (n : ℕ). k < n) (sym fills.outputs) inside)

      pub all_late : All can gs
      all_late k d inside =
          let within : k < length fs = subst (λ (n : ℕ). k < n) fills.futures inside in
          subst (λ (it : Option A). IfNone it (can (get_or gs k d))) (none_at k within) (each_late fs (replicate n None) gs ys fills k d inside)

      pub all_narrow : EachResumes gives fs gs
      all_narrow = (
        fills.futures,
        λ k d x inside.
            subst (λ (it : Option A). IfNone it ((x : A) → gives (get_or gs k d) x → gives (get_or fs k d) x)) (none_at k inside) (each_narrows k d inside) x,
      )
