-- What is shown of a state, one value after another, and what orders of its values follow from
-- what may be written.
use Rattle.std.proofs.lemmas.List.{same_from_push}
use Rattle.async_cell_latest_sync.specs.InOrder.{AllFollowing, AreInOrder, FollowsLast, IsLast, OnlyFollowing, WasShown}
use Rattle.async_cell_latest_sync.specs.Life.{EndsIn, IsNext, IsShown}
use Rattle.async_cell_model.specs.Legal.{IsExact}
use Rattle.async_cell_latest_sync.proofs.Words.{Life, GoesOn, IsLawful, IsShownNext, ◌≡◌, ◌⊎◌, true, List, [], ◌∷◌, ◌++◌, length, None, inl, inr, refl, ap, sym, subst, ◌∙◌, arith, append_assoc, append-nil}
use Rattle.async_cell_latest_sync.proofs.Words.{◌≤◌, length-append, shorter_begins}

module _ {T : Type 0} where
  -- a life goes on to itself, and on to what that goes on to
  pub stays_itself : (life : Life T) → GoesOn life life
  stays_itself life = record { begins = ([], append-nil life.values); ended = λ _. refl }

  pub goes_further : (life now later : Life T) → GoesOn life now → GoesOn now later → GoesOn life later
  goes_further life now later on then = record {
    begins = (on.begins.0 ++ then.begins.0, sym (append_assoc life.values on.begins.0 then.begins.0) ∙ ap (λ l. l ++ then.begins.0) on.begins.1 ∙ then.begins.1);
    ended = λ closed. let same = on.ended closed in then.ended (ap (λ (l : Life T). l.closed) same ∙ closed) ∙ same;
  }

  -- two lives of one state are the same, if both are closed
  pub both_closed : (one other : Life T) → GoesOn one other ⊎ GoesOn other one → one.closed ≡ true → other.closed ≡ true → one ≡ other
  both_closed one other goes one_closed other_closed = elim goes [ inl on ↦ sym (on.ended one_closed) | inr on ↦ on.ended other_closed ]

module _ {T : Type 0} (is_clone : T → T → Type 0) where
  -- what is shown next is shown
  pub next_is_shown : (seen now : Life T) (y : T) → IsShownNext is_clone seen y now → IsShown is_clone seen y now
  next_is_shown seen now y next = record { goes_on = next.goes_on; value = next.value; ends = (next.before, next.ends); clone = next.clone }

  -- what is shown next was written after what was shown before
  pub in_order : (seen now mid later : Life T) (x y : T) → IsShown is_clone seen x now → GoesOn now mid → IsShownNext is_clone mid y later → AreInOrder is_clone x y later.values
  in_order seen now mid later x y shown on next =
      let front = shown.ends.0 in let more = on.begins.0 in let rest = next.after_seen.0 in
      let upto : mid.values ≡ front ++ shown.value ∷ more = sym on.begins.1 ∙ ap (λ l. l ++ more) shown.ends.1 ∙ append_assoc front (shown.value ∷ []) more in
      let before : next.before ≡ front ++ shown.value ∷ (more ++ rest) =
      sym next.after_seen.1 ∙ ap (λ l. l ++ rest) upto ∙ append_assoc front (shown.value ∷ more) rest in
      record {
        before = front;
        first = shown.value;
        between = more ++ rest;
        second = next.value;
        later = [];
        split = next.ends ∙ ap (λ l. l ++ next.value ∷ []) before;
        shown_first = shown.clone;
        shown_second = next.clone;
      }

  -- what is shown was shown, and that stays so
  pub is_shown_was_shown : (seen now : Life T) (x : T) → IsShown is_clone seen x now → WasShown is_clone x now
  is_shown_was_shown seen now x shown = record { before = shown.ends.0; value = shown.value; later = []; split = shown.ends.1; clone = shown.clone }

  pub next_was_shown : (seen now : Life T) (x : T) → IsShownNext is_clone seen x now → WasShown is_clone x now
  next_was_shown seen now x next = is_shown_was_shown seen now x (next_is_shown seen now x next)

  pub shown_stays : (life now : Life T) (x : T) → WasShown is_clone x life → GoesOn life now → WasShown is_clone x now
  shown_stays life now x was on = record {
    before = was.before;
    value = was.value;
    later = was.later ++ on.begins.0;
    split = sym on.begins.1 ∙ ap (λ l. l ++ on.begins.0) was.split ∙ append_assoc was.before (was.value ∷ was.later) on.begins.0;
    clone = was.clone;
  }

  -- what is shown is the value that was shown, or a later one
  same_or_later : (now : Life T) (x y : T) (was : WasShown is_clone x now) (later : List T) → now.values ≡ was.before ++ was.value ∷ later → (value : T) → EndsIn now.values value → is_clone value y
      → (was.value ≡ value) ⊎ AreInOrder is_clone x y now.values
  same_or_later now x y was [] split value ends clone = inl (same_from_push was.before ends.0 was.value value (sym split ∙ ends.1)).1
  same_or_later now x y was (z ∷ later) split value ends clone =
      let front = was.before ++ was.value ∷ [] in
      let whole : now.values ≡ front ++ z ∷ later = split ∙ sym (append_assoc was.before (was.value ∷ []) (z ∷ later)) in
      let no_longer : length front ≤ length ends.0 =
      omega (arith, length-append front (z ∷ later), length-append ends.0 (value ∷ []), ap length whole, ap length ends.1) in
      let mid = shorter_begins front ends.0 now.values (z ∷ later, sym whole) (value ∷ [], sym ends.1) no_longer in
      inr (record {
        before = was.before;
        first = was.value;
        between = mid.0;
        second = value;
        later = [];
        split = ends.1 ∙ ap (λ l. l ++ value ∷ []) (sym mid.1 ∙ append_assoc was.before (was.value ∷ []) mid.0);
        shown_first = was.clone;
        shown_second = clone;
      })

  -- what is shown of a closed state is the last value
  pub closed_is_last : (seen now : Life T) (x : T) → IsShown is_clone seen x now → now.closed ≡ true → IsLast is_clone x now
  closed_is_last seen now x shown closed = record { closed = closed; value = shown.value; ends = shown.ends; clone = shown.clone }

  pub closed_before_is_last : (seen now : Life T) (x : T) → IsShown is_clone seen x now → seen.closed ≡ true → IsLast is_clone x now
  closed_before_is_last seen now x shown closed = closed_is_last seen now x shown (ap (λ (l : Life T). l.closed) (shown.goes_on.ended closed) ∙ closed)

  pub closed_next_is_last : (seen now : Life T) (x : T) → IsShownNext is_clone seen x now → now.closed ≡ true → IsLast is_clone x now
  closed_next_is_last seen now x next closed = closed_is_last seen now x (next_is_shown seen now x next) closed

  -- what was shown before there was no next value is the last value, and stays it
  pub none_is_next : (seen now later : Life T) (x : T) → IsShown is_clone seen x now → IsNext is_clone now None later → IsLast is_clone x later
  none_is_next seen now later x shown none = record { closed = none.2; value = shown.value; ends = (shown.ends.0, none.1 ∙ shown.ends.1); clone = shown.clone }

  pub last_stays : (life now : Life T) (x : T) → IsLast is_clone x life → GoesOn life now → IsLast is_clone x now
  last_stays life now x last on = subst (λ (l : Life T). IsLast is_clone x l) (sym (on.ended last.closed)) last

  same_or_next : (seen now mid later : Life T) (x y : T) (rest : List T) (first : IsShown is_clone seen x now) → GoesOn now later → (second : IsShown is_clone mid y later)
      → now.values ++ rest ≡ later.values → (first.value ≡ second.value) ⊎ IsShownNext is_clone now y later
  same_or_next seen now mid later x y [] first on second is =
      inl (same_from_push first.ends.0 second.ends.0 first.value second.value (sym first.ends.1 ∙ sym (append-nil now.values) ∙ is ∙ second.ends.1)).1
  same_or_next seen now mid later x y (z ∷ rest) first on second is =
      let shorter : length now.values ≤ length second.ends.0 =
      omega (arith, length-append now.values (z ∷ rest), length-append second.ends.0 (second.value ∷ []), ap length is, ap length second.ends.1) in
      inr (record {
        goes_on = on;
        before = second.ends.0;
        value = second.value;
        after_seen = shorter_begins now.values second.ends.0 later.values (z ∷ rest, is) (second.value ∷ [], sym second.ends.1) shorter;
        ends = second.ends.1;
        clone = second.clone;
      })

  -- what is shown again is the same value, or was written later
  pub shown_again : (seen now mid later : Life T) (x y : T) (first : IsShown is_clone seen x now) → GoesOn now mid → (second : IsShown is_clone mid y later)
      → (first.value ≡ second.value) ⊎ IsShownNext is_clone now y later
  shown_again seen now mid later x y first on second =
      let both = goes_further now mid later on second.goes_on in
      same_or_next seen now mid later x y both.begins.0 first both second both.begins.1

module _ {T : Type 0} (may : List T → T → Type 0) (Follows : T → T → Type 0) (all : AllFollowing may Follows) where
  -- a first value, and one that follows the last one, may be written
  pub may_begin : (value : T) → may [] value
  may_begin value = all [] value (λ last ends. absurd (omega (arith, length-append ends.0 (last ∷ []), ap length ends.1)))

  pub may_follow : (before : List T) (old new : T) → Follows old new → may (before ++ old ∷ []) new
  may_follow before old new follows = all (before ++ old ∷ []) new (λ last ends. subst (λ l. Follows l new) (same_from_push before ends.0 old last ends.1).1 follows)

module _ {T : Type 0} (may : List T → T → Type 0) (Follows : T → T → Type 0) (chained : (a b c : T) → Follows a b → Follows b c → Follows a c) (only : OnlyFollowing may Follows) where
  -- by that rule a later value follows an earlier one
  climbs : (front between later : List T) (x y : T) → ((before after : List T) → (value : T) → front ++ x ∷ (between ++ y ∷ later) ≡ before ++ value ∷ after → FollowsLast Follows before value)
      → Follows x y
  climbs front [] later x y each = each (front ++ x ∷ []) later y (sym (append_assoc front (x ∷ []) (y ∷ later))) x (front, refl)
  climbs front (z ∷ between) later x y each =
      let split = append_assoc front (x ∷ []) (z ∷ (between ++ y ∷ later)) in
      chained x z y (each (front ++ x ∷ []) (between ++ y ∷ later) z (sym split) x (front, refl))
      (climbs (front ++ x ∷ []) between later z y (λ before after value is. each before after value (sym split ∙ is)))

  module _ (is_clone : T → T → Type 0) (exact : IsExact is_clone) where
    -- and so a value that was shown follows one that was written before it
    pub in_order_follows : (values : List T) (x y : T) → IsLawful may values → AreInOrder is_clone x y values → Follows x y
    in_order_follows values x y lawful shown =
        subst (λ n. Follows n y) (sym (exact shown.first x shown.shown_first)) (subst (λ n. Follows shown.first n) (sym (exact shown.second y shown.shown_second))
        (climbs shown.before shown.between shown.later shown.first shown.second
        (λ before after value is. only before value (lawful.each before after value (shown.split ∙ append_assoc shown.before (shown.first ∷ shown.between) (shown.second ∷ shown.later) ∙ is)))))

    pub next_follows : (seen now mid later : Life T) (x y : T) → IsLawful may later.values → IsShown is_clone seen x now → GoesOn now mid → IsShownNext is_clone mid y later → Follows x y
    next_follows seen now mid later x y lawful first on next = in_order_follows later.values x y lawful (in_order is_clone seen now mid later x y first on next)

    -- and what is shown follows all that was shown
    pub shown_after : ((a : T) → Follows a a) → (seen now : Life T) (x y : T) → IsLawful may now.values → WasShown is_clone x seen → IsShown is_clone seen y now → Follows x y
    shown_after itself seen now x y lawful was shown =
        let still = shown_stays is_clone seen now x was shown.goes_on in
        elim (same_or_later is_clone now x y still still.later still.split shown.value shown.ends shown.clone) [
          | inl same ↦ subst (λ n. Follows x n) (exact still.value x still.clone ∙ same ∙ sym (exact shown.value y shown.clone)) (itself x)
          | inr ordered ↦ in_order_follows now.values x y lawful ordered
        ]

    pub next_after : ((a : T) → Follows a a) → (seen now : Life T) (x y : T) → IsLawful may now.values → WasShown is_clone x seen → IsShownNext is_clone seen y now → Follows x y
    next_after itself seen now x y lawful was next = shown_after itself seen now x y lawful was (next_is_shown is_clone seen now y next)

    -- or is the same value
    pub shown_follows : ((a : T) → Follows a a) → (seen now mid later : Life T) (x y : T) → IsLawful may later.values → IsShown is_clone seen x now → GoesOn now mid → IsShown is_clone mid y later
        → Follows x y
    shown_follows itself seen now mid later x y lawful first on second = elim (shown_again is_clone seen now mid later x y first on second) [
      | inl same ↦ subst (λ n. Follows x n) (exact first.value x first.clone ∙ same ∙ sym (exact second.value y second.clone)) (itself x)
      | inr next ↦ next_follows seen now now later x y lawful first (stays_itself now) next
    ]
