-- What the marks of tasks say, what a change does to a list of tasks, and whose names wait.
use Rattle.async_cell_driver.proofs.Words.{slice_get_read, AllNamed, DriverState, NamesMatch, change, is_named, mark_at, name_of, result_at, result_of, wake, wake_each, NoneForgotten, Task}
use Rattle.async_cell_driver.proofs.Words.{wait_list-distinct, IsSound, wait_list, with_one_more, same_name, Named, List, Option, Some, [], ap, arith, get_or, length, map, refl, set, subst}
use Rattle.async_cell_driver.proofs.Words.{suc, sym, zero, ℕ, ◌++◌, ◌<◌, ◌||◌, ◌∙◌, ◌∷◌, ◌≡◌, ◌≢◌, ◌≤◌, nat_tests, eq-eqb, eqb-true, list_any-append, get_or-map, length-map, IsDistinct-from_apart}
use Rattle.async_cell_driver.proofs.Words.{length-le_from_distinct_below, slice_get_past, IsDistinct, list_any, option_map, AllPairs, fold, nat_eq, slice_get, woken_if}

module _ {T : Type 0} where
  -- where each waiting name stands in the waiting list, no task is forgotten
  pub awake : (at : DriverState T) → IsSound same_name at.core → AllNamed at → NoneForgotten at
  awake at sound covered not_vacant i stands = grind (arith, covered, sound.waits_vacant)

  -- within the list one task is written
  pub change_within : (f : Task T → Task T) (i : ℕ) (tasks : List (Task T)) (task new : Task T) → i < length tasks → task ≡ get_or tasks i task → new ≡ f task → set tasks i new ≡ change f i tasks
  change_within f i [] task new within is made = absurd (omega arith)
  change_within f zero (t ∷ tasks) task new within is made = ap (λ (x : Task T). x ∷ tasks) (made ∙ ap f is)
  change_within f (suc i) (t ∷ tasks) task new within is made = ap (λ (xs : List (Task T)). t ∷ xs) (change_within f i tasks task new (omega arith) is made)

  -- past its end none is
  pub change_past : (f : Task T → Task T) (i : ℕ) (tasks : List (Task T)) → length tasks ≤ i → change f i tasks ≡ tasks
  change_past f i [] past = refl
  change_past f zero (t ∷ tasks) past = absurd (omega arith)
  change_past f (suc i) (t ∷ tasks) past = ap (λ (xs : List (Task T)). t ∷ xs) (change_past f i tasks (omega arith))

  -- what was kept for a task within the list
  pub result_within : (i : ℕ) (tasks : List (Task T)) (task : Task T) → i < length tasks → task ≡ get_or tasks i task → task.result ≡ result_at tasks i
  result_within i tasks task within is = ap result_of (sym (slice_get_read tasks (length tasks) i task refl within is))

  pub slice_get-change_same : (f : Task T → Task T) (i : ℕ) (tasks : List (Task T)) → slice_get (change f i tasks) i ≡ option_map f (slice_get tasks i)
  slice_get-change_same f i [] = refl
  slice_get-change_same f zero (t ∷ tasks) = refl
  slice_get-change_same f (suc i) (t ∷ tasks) = slice_get-change_same f i tasks

  pub slice_get-change_other : (f : Task T → Task T) (n i : ℕ) (tasks : List (Task T)) → n ≢ i → slice_get (change f n tasks) i ≡ slice_get tasks i
  slice_get-change_other f n i [] other = refl
  slice_get-change_other f zero zero (t ∷ tasks) other = absurd (other refl)
  slice_get-change_other f (suc n) (suc i) (t ∷ tasks) other = slice_get-change_other f n i tasks (λ same. other (ap suc same))
  slice_get-change_other f n i tasks other = refl

  -- what a change leaves alone is as it was
  pub says_same : {A : Type 0} (says : Option (Task T) → A) (f : Task T → Task T) → ((t : Option (Task T)) → says (option_map f t) ≡ says t)
      → (n i : ℕ) (tasks : List (Task T)) → says (slice_get (change f n tasks) i) ≡ says (slice_get tasks i)
  says_same says f same n i [] = refl
  says_same says f same zero zero (t ∷ tasks) = same (Some t)
  says_same says f same (suc n) (suc i) (t ∷ tasks) = says_same says f same n i tasks
  says_same says f same n i tasks = refl

  pub map-change : {A : Type 0} (says : Task T → A) (f : Task T → Task T) → ((t : Task T) → says (f t) ≡ says t) → (n : ℕ) (tasks : List (Task T)) → map says (change f n tasks) ≡ map says tasks
  map-change says f same n [] = refl
  map-change says f same zero (t ∷ tasks) = ap (λ x. x ∷ map says tasks) (same t)
  map-change says f same (suc n) (t ∷ tasks) = ap (λ xs. says t ∷ xs) (map-change says f same n tasks)

  pub kinds-wake_each : (names : List Named) (tasks : List (Task T)) → map (λ task. task.kind) (wake_each names tasks) ≡ map (λ task. task.kind) tasks
  kinds-wake_each [] tasks = refl
  kinds-wake_each (n ∷ names) tasks = kinds-wake_each names (change wake n.0 tasks) ∙ map-change (λ task. task.kind) wake (λ t. refl) n.0 tasks

  pub results_woken : (names : List Named) (tasks : List (Task T)) (i : ℕ) → result_at (wake_each names tasks) i ≡ result_at tasks i
  results_woken [] tasks i = refl
  results_woken (n ∷ names) tasks i = results_woken names (change wake n.0 tasks) i ∙ says_same result_of wake (λ t. grind arith) n.0 i tasks

  pub mark-wake_each : (names : List Named) (tasks : List (Task T)) (i : ℕ) → mark_at (wake_each names tasks) i ≡ woken_if (is_named i names) (mark_at tasks i)
  mark-wake_each [] tasks i = refl
  mark-wake_each (n ∷ names) tasks i =
      let rest = mark-wake_each names (change wake n.0 tasks) i in grind (arith, nat_tests, slice_get-change_same, slice_get-change_other, rest)

pub named-append : (i : ℕ) (xs ys : List Named) → is_named i (xs ++ ys) ≡ (is_named i xs || is_named i ys)
named-append i xs ys = list_any-append (λ name. nat_eq name.0 i) xs ys

named_each : (i : ℕ) (l names : List Named) → is_named i (fold (with_one_more same_name) l names) ≡ (is_named i l || is_named i names)
named_each i l [] = grind arith
named_each i l (w ∷ rest) = let here = named_each i (with_one_more same_name l w) rest in grind (arith, here, eqb-true, named-append)

-- the names in the wait list are those that registered
pub named-wait_list : (i : ℕ) (names : List Named) → is_named i (wait_list same_name names) ≡ is_named i names
named-wait_list i names = named_each i [] names

numbers_distinct : (names : List Named) → AllPairs (λ u v. u ≢ v) names → IsDistinct nat_eq (map (λ (name : Named). name.0) names)
numbers_distinct names distinct = IsDistinct-from_apart nat_eq (map (λ (name : Named). name.0) names) (λ i j d before within.
    let high : j < length names = rw length-map at within in
    let low : i < length names = omega arith in
    rw (get_or-map (λ (name : Named). name.0) names i (name_of d) d low, get_or-map (λ (name : Named). name.0) names j (name_of d) d high)
    (let apart = distinct i j (name_of d) before high in grind (arith, nat_tests, apart)))

named_number : (q : ℕ) (names : List Named) → list_any (nat_eq q) (map (λ (name : Named). name.0) names) ≡ is_named q names
named_number q [] = refl
named_number q (n ∷ names) = let rest = named_number q names in grind (arith, nat_tests, rest)

-- no more wakers wait than there are tasks
pub waiting_few : {T : Type 0} (at : DriverState T) → IsSound same_name at.core → NamesMatch at → length at.core.waiting ≤ length at.tasks
waiting_few at sound covered =
    let distinct : AllPairs (λ (u v : Named). u ≢ v) at.core.waiting =
    subst (λ (l : List Named). AllPairs (λ (u v : Named). u ≢ v) l) sound.none_skipped (wait_list-distinct same_name at.core.waiting (λ w. eq-eqb w.0 w.0 refl)) in
    let few =
    length-le_from_distinct_below (map (λ (name : Named). name.0) at.core.waiting) (length at.tasks) (numbers_distinct at.core.waiting distinct)
    (λ q has. let stands = covered.1 q (sym (named_number q at.core.waiting) ∙ has) in grind (arith, stands, slice_get_past)) in
    rw length-map at few
