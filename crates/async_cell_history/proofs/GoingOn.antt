-- What is got later follows what was got before, if each change of a full cell puts in a value
-- that follows the one before it.
use Rattle.async_cell_history.proofs.Words.{rules, ◌≡◌, ◌⊎◌, ◌++◌, Bool, List, [], ◌∷◌, Contains, Option, Some, None, refl, sym, subst, ◌∙◌, inl, inr, append_assoc, arith, ⊤, All, All-head, All-tail}
use Rattle.async_cell_history.proofs.Words.{All-weaker, All-contains, All-contains_itself, Contains-append_left, Contains-append_right, Contains-append_cases, Contains-push, IsPrefix, Cell, Closed}
use Rattle.async_cell_history.proofs.Words.{Open, Entry, Kept, TryGet, Update, Reply, Value, Done, State, Exactly, UpToClones, FitsUpdate, content, next, History, cell_after, after, IsExact, IsLegalAfterBy}
use Rattle.async_cell_history.proofs.Words.{MayFollowBy, cell_after-append, WakerRules, Begun, GoesOn, HasEntry, IsAllowed, IsLawful, IsOrSet, IsLinearized, IsLinearizedUpTo, OnlyMakes, start_of}
use Rattle.async_cell_history.proofs.Leading.{all_such}
use Rattle.async_cell_history.proofs.Linearizing.{second}

-- an element of a list is its head, or one of its tail
cases : {A : Type 0} (y : A) (ys : List A) (x : A) → Contains (y ∷ ys) x → (y ≡ x) ⊎ Contains ys x
cases y ys x is = elim (Contains-append_cases (y ∷ []) ys x is) [ inl head ↦ inl (grind arith) | inr tail ↦ inr tail ]

-- what holds of each element of a list holds of each of its second part
All-second : {A : Type 0} (P : A → Type 0) (xs ys : List A) → All P (xs ++ ys) → All P ys
All-second P xs ys all = All-weaker (Contains ys) P (λ x is. All-contains P (xs ++ ys) x all (Contains-append_right xs ys x is)) ys (All-contains_itself ys)

-- what is in a history stays there
pub stays : {T W : Type 0} (seen now : History T W) (call : Kept T W) (answer : Reply T) → IsPrefix seen now → HasEntry seen call answer → HasEntry now call answer
stays {T} {W} seen now call answer on has =
    let e : Entry T W = record { call = call; reply = answer } in
    record { there = subst (λ (h : History T W). Contains h e) on.1 (Contains-append_left seen on.0 e has.there) }

-- where clones are exact, a get gave the machine's own reply
own_if : {T : Type 0} (W : Type 0) (is_clone : T → T → Type 0) → IsExact is_clone → (own : Reply T) (v : T) → UpToClones {W = W} is_clone TryGet own (Value (Some v)) → own ≡ Value (Some v)
own_if W is_clone exact own v cloned = grind (arith, exact)

pub exact_get : {T W : Type 0} (is_clone : T → T → Type 0) → IsExact is_clone → (rules : WakerRules W) (named : Option (Begun T W)) (seen now : History T W) (v : T)
    → IsLinearizedUpTo is_clone rules named seen TryGet (Value (Some v)) now → IsLinearized rules named seen TryGet (Value (Some v)) now
exact_get {W} is_clone exact rules named seen now v told = subst (λ r. IsLinearized rules named seen TryGet r now) (own_if W is_clone exact told.0 v told.2) told.1

module _ {T : Type 0} (Follows : T → T → Type 0) where
  -- the cell is closed, or holds a value that follows this one
  abbrev Later : T → Cell T → Type 0
  Later x Closed = ⊤
  Later x (Open None n) = ⊥
  Later x (Open (Some y) n) = Follows x y

  later_here : (v : T) (c : Cell T) → Follows v v → content c ≡ Some v → Later v c
  later_here v c itself is = grind arith

module _ {T W : Type 0} where
  -- a value was got
  abbrev got : T → Entry T W
  got v = record { call = TryGet; reply = Value (Some v) }

  -- an `or_set` goes on
  goes_on : (Follows : T → T → Type 0) (call : Kept T W) → IsOrSet call → GoesOn Follows call
  goes_on Follows call is = search rules

  module _ (will_wake : W → W → Bool) (sure : Bool) (b : State T W) where
    -- a get that is legal after these calls finds its value
    full_if : (g : History T W) (e : Entry T W) (v : T) → MayFollowBy Exactly will_wake sure (after will_wake b g) e → e ≡ got v → content (cell_after b.cell g) ≡ Some v
    full_if g e v may is = grind (arith, may)

  module _ (Follows : T → T → Type 0) (on : (a b c : T) → Follows a b → Follows b c → Follows a c) where
    step_later : (x : T) (c : Cell T) (e : Entry T W) → Later Follows x c → IsAllowed (GoesOn Follows) e.call → FitsUpdate c e.call → Later Follows x (next c e)
    step_later x c e later may fits = grind (arith, on, may)

    module _ (will_wake : W → W → Bool) (sure : Bool) (b : State T W) where
      -- what is got in these calls follows what the cell held before them
      got_later : (x w : T) (g h : History T W) → Later Follows x (cell_after b.cell g) → IsLegalAfterBy Exactly will_wake sure b g h → All (λ e. IsAllowed (GoesOn Follows) e.call) h
          → Contains h (got w) → Follows x w
      got_later x w g [] later legal all is = absurd (omega (arith, is.1))
      got_later x w g (e ∷ rest) later legal all is = elim (cases e rest (got w) is) [
        | inl here ↦ grind (arith, later, full_if will_wake sure b g e w legal.0 here)
        | inr there ↦ got_later x w (g ++ e ∷ []) rest
            (subst (Later Follows x) (sym (cell_after-append b.cell g (e ∷ [])))
            (step_later x (cell_after b.cell g) e later (All-head (λ y. IsAllowed (GoesOn Follows) y.call) e rest all) legal.0.updated))
            legal.1 (All-tail (λ y. IsAllowed (GoesOn Follows) y.call) e rest all) there
      ]

  module _ (will_wake : W → W → Bool) (sure : Bool) (b : State T W) where
    abbrev Alike : Entry T W → Type 0
    Alike e = IsAllowed (GoesOn (λ (x y : T). x ≡ y)) e.call

    -- if values only come where there was none, all that are got are one
    alike : (v w : T) (g h : History T W) → IsLegalAfterBy Exactly will_wake sure b g h → All Alike h → Contains h (got v) → Contains h (got w) → v ≡ w
    alike v w g [] legal all first other = absurd (omega (arith, first.1))
    alike v w g (e ∷ rest) legal all first other =
        let later : (x y : T) → e ≡ got x → Contains (e ∷ rest) (got y) → x ≡ y =
        λ x y here is. got_later (λ p q. p ≡ q) (λ p q r s t. s ∙ t) will_wake sure b x y g (e ∷ rest)
        (later_here (λ p q. p ≡ q) x (cell_after b.cell g) refl (full_if will_wake sure b g e x legal.0 here)) legal all is in
        elim (cases e rest (got v) first) [
          | inl here ↦ later v w here other
          | inr there ↦ elim (cases e rest (got w) other) [
            | inl here ↦ sym (later w v here first)
            | inr also ↦ alike v w (g ++ e ∷ []) rest legal.1 (All-tail Alike e rest all) there also
          ]
        ]

module _ {T W : Type 0} (will_wake : W → W → Bool) (sure : Bool) (may : Kept T W → Type 0) (named : Option (Begun T W)) where
  -- all who get a value that is set once get the same one
  pub all_get : (now : History T W) (v w : T) → OnlyMakes may IsOrSet → IsLawful will_wake sure may (start_of named) now → HasEntry now TryGet (Value (Some v)) → HasEntry now TryGet (Value (Some w))
      → v ≡ w
  all_get now v w only lawful first other =
      alike will_wake sure (start_of named) v w [] now lawful.legal
      (all_such may (GoesOn (λ (x y : T). x ≡ y)) (λ call is change. goes_on (λ (x y : T). x ≡ y) call (only call is change)) now lawful.allowed) first.there other.there

module _ {T W : Type 0} (rules : WakerRules W) (may : Kept T W → Type 0) (named : Option (Begun T W)) where
  -- what was told is in the history
  pub linearized_in : (seen now : History T W) (call : Kept T W) (answer : Reply T) → IsLinearized rules named seen call answer now → HasEntry now call answer
  linearized_in seen now call answer told =
      let e : Entry T W = record { call = call; reply = answer } in
      record { there = subst (λ (h : History T W). Contains h e) (sym told.ends) (Contains-push told.before e) }

  -- what is got later follows what the cell held before
  later_get : (Follows : T → T → Type 0) (on : (a b c : T) → Follows a b → Follows b c → Follows a c) (first later now : History T W) (v w : T)
      → OnlyMakes may (GoesOn Follows) → IsLawful rules.will_wake rules.SURE_CLONE may (start_of named) now
      → Later Follows v (cell_after (start_of named).cell first) → IsPrefix first later → IsLinearized rules named later TryGet (Value (Some w)) now → Follows v w
  later_get Follows on first later now v w only lawful held leads told =
      let start : State T W = start_of named in
      let rest : History T W = leads.0 ++ (told.goes_on.0 ++ got w ∷ []) in
      let whole : now ≡ first ++ rest =
      told.ends ∙ (rw (sym told.goes_on.1, sym leads.1) (search (append_assoc))) in
      let legal = second rules.will_wake rules.SURE_CLONE start [] first rest (subst (λ (h : History T W). IsLegalAfterBy Exactly rules.will_wake rules.SURE_CLONE start [] h) whole lawful.legal) in
      let all : All (λ e. IsAllowed may e.call) rest = All-second (λ (e : Entry T W). IsAllowed may e.call) first rest
      (subst (λ (h : History T W). All (λ e. IsAllowed may e.call) h) whole lawful.allowed) in
      got_later Follows on rules.will_wake rules.SURE_CLONE start v w first rest held legal
      (all_such may (GoesOn Follows) only rest all)
      (Contains-append_right leads.0 (told.goes_on.0 ++ got w ∷ []) (got w) (Contains-push told.goes_on.0 (got w)))

  -- after a get that found this value the cell holds it
  holds_got : (seen first : History T W) (v : T) → IsLinearized rules named seen TryGet (Value (Some v)) first → content (cell_after (start_of named).cell first) ≡ Some v
  holds_got seen first v told = grind (arith, told.does.replied, told.does.cell_is)

  -- after an update that put this value in the cell holds it
  holds_put : (seen first : History T W) (saw : Option T) (v : T) → IsLinearized rules named seen (Update saw (Some v)) Done first → content (cell_after (start_of named).cell first) ≡ Some v
  holds_put seen first saw v told = grind (arith, told.does.replied, told.does.cell_is)

  -- what is got never goes back
  pub never_back : (Follows : T → T → Type 0) (itself : (a : T) → Follows a a) (on : (a b c : T) → Follows a b → Follows b c → Follows a c) (seen first later now : History T W) (v w : T)
      → OnlyMakes may (GoesOn Follows) → IsLawful rules.will_wake rules.SURE_CLONE may (start_of named) now
      → IsLinearized rules named seen TryGet (Value (Some v)) first → IsPrefix first later → IsLinearized rules named later TryGet (Value (Some w)) now → Follows v w
  never_back Follows itself on seen first later now v w only lawful before =
      later_get Follows on first later now v w only lawful (later_here Follows v (cell_after (start_of named).cell first) (itself v) (holds_got seen first v before))

  -- what is got follows what was put in
  pub follows_put : (Follows : T → T → Type 0) (itself : (a : T) → Follows a a) (on : (a b c : T) → Follows a b → Follows b c → Follows a c)
      (seen first later now : History T W) (saw : Option T) (v w : T)
      → OnlyMakes may (GoesOn Follows) → IsLawful rules.will_wake rules.SURE_CLONE may (start_of named) now
      → IsLinearized rules named seen (Update saw (Some v)) Done first → IsPrefix first later → IsLinearized rules named later TryGet (Value (Some w)) now → Follows v w
  follows_put Follows itself on seen first later now saw v w only lawful before =
      later_get Follows on first later now v w only lawful (later_here Follows v (cell_after (start_of named).cell first) (itself v) (holds_put seen first saw v before))
