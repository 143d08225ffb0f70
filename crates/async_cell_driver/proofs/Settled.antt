-- Polls of all that are ready, one by one.
use Rattle.async_cell_driver.proofs.Words.{slice_get_cases, is_ready_mark, DriverState, NamesMatch, change, mark_at, result_at, result_of, with_result, Drives, ResultsStay, line_of, Line}
use Rattle.async_cell_driver.proofs.Words.{Log, is_ready, kinds, Keeps, Settles, SettlesOne, events_of, has_refused, numbers, Poll, Ready, Told, Task, Refusal, List, None, Option, Some}
use Rattle.async_cell_driver.proofs.Words.{[], add-one, ap, append-nil, append_assoc, arith, false, length, length-append, map, refl, suc, sym, true, zero, ℕ, ◌++◌, ◌+◌, ◌-◌, ◌<◌, ◌||◌}
use Rattle.async_cell_driver.proofs.Words.{◌∙◌, ◌∷◌, ◌≡◌, ◌≢◌, nat_tests, filter-append, length-map, map-append, reverse-append, option_map, Err, Ok, filter, reverse}
use Rattle.async_cell_driver.specs.declared.event.Told.TheVariants as told
use Rattle.async_cell_driver.proofs.{Logs.drives_join, CoreCalls.poll_steps}
use Rattle.async_cell_driver.proofs.TaskList.{says_same, map-change, slice_get-change_same, slice_get-change_other}

-- the numbers below one begin those below another
begin_numbers : (d m n : ℕ) → n ≡ d + m → (rest : List ℕ) × (numbers n ≡ numbers m ++ rest)
begin_numbers zero m n same = let is : n ≡ m = omega arith in ([], rw is (sym (append-nil (numbers m))))
begin_numbers (suc d) m zero same = absurd (omega arith)
begin_numbers (suc d) m (suc n) same =
    let before = begin_numbers d m n (omega arith) in
    (before.0 ++ n ∷ [], ap (λ l. l ++ n ∷ []) before.1 ∙ append_assoc (numbers m) before.0 (n ∷ []))

module _ {T : Type 0} where
  -- the state with what is kept for task i
  abbrev pub keeping : ℕ → Option (Option T) → DriverState T → DriverState T
  keeping i result at = record { core = at.core; tasks = change (with_result result) i at.tasks }

  pub mark-keeping : (i j : ℕ) (result : Option (Option T)) (tasks : List (Task T)) → mark_at (change (with_result result) i tasks) j ≡ mark_at tasks j
  mark-keeping i j result tasks = says_same (option_map (λ task. task.mark)) (with_result result) (λ t. grind arith) i j tasks

  pub covered_keeping : (i : ℕ) (result : Option (Option T)) (at : DriverState T) → NamesMatch at → NamesMatch (keeping i result at)
  covered_keeping i result at covered = grind (arith, mark-keeping, covered.0, covered.1)

  pub ready-keeping : (i j : ℕ) (result : Option (Option T)) (at : DriverState T) → is_ready (keeping i result at) [] j ≡ is_ready at [] j
  ready-keeping i j result at = ap is_ready_mark (mark-keeping i j result at.tasks)

  -- where a log leads, something may be kept
  pub drives_keeping : (is_clone : T → T → Type 0) (i : ℕ) (result : Option (Option T)) (from at : DriverState T) (log : Log T) → Drives is_clone from log at
      → Drives is_clone from log (keeping i result at)
  drives_keeping is_clone i result from at log drives = grind (arith, map-change, mark-keeping, ready-keeping)

  pub result-forgotten : (i : ℕ) (tasks : List (Task T)) → result_at (change (with_result None) i tasks) i ≡ None
  result-forgotten i tasks = grind (arith, slice_get-change_same)

  pub result-keeping_other : (i j : ℕ) (result : Option (Option T)) (tasks : List (Task T)) → i ≢ j → result_at (change (with_result result) i tasks) j ≡ result_at tasks j
  result-keeping_other i j result tasks other = ap result_of (slice_get-change_other (with_result result) i j tasks other)

  -- what the polls of the tasks below i came to
  pub record SoFar (is_clone : T → T → Type 0) (from : DriverState T) (i polls : ℕ) (log : Log T) (at : DriverState T) : Type 0 where
    pub drives : Drives is_clone from log at
    pub events : events_of log ≡ map Poll (filter (is_ready from []) (numbers i))
    pub none_refused : has_refused log ≡ false
    pub counts : polls ≡ length (filter (is_ready from []) (numbers i))
    pub keeps : Keeps from log at

  numbers_more : (from : DriverState T) (i : ℕ) → filter (is_ready from []) (numbers (i + 1)) ≡ filter (is_ready from []) (numbers i) ++ filter (is_ready from []) (i ∷ [])
  numbers_more from i = rw (add-one i) (filter-append (is_ready from []) (numbers i) (i ∷ []))

  pub so_far_nil : (is_clone : T → T → Type 0) (from : DriverState T) → Drives is_clone from [] from → SoFar is_clone from 0 0 [] from
  so_far_nil is_clone from drives = record { drives = drives; events = refl; none_refused = refl; counts = refl; keeps = λ i. refl }

  -- a task that is not ready is not polled
  pub so_far_skip : (is_clone : T → T → Type 0) (from at : DriverState T) (i polls : ℕ) (log : Log T) → SoFar is_clone from i polls log at → is_ready from [] i ≡ false
      → SoFar is_clone from (i + 1) polls log at
  so_far_skip is_clone from at i polls log here not_ready = grind (arith, numbers_more, append-nil)

  events-more : (line : Line T) (log : Log T) → events_of (line ∷ log) ≡ events_of log ++ line.event ∷ []
  events-more line log = ap (map (λ l. l.event)) (reverse-append (line ∷ []) log) ∙ map-append (λ l. l.event) (reverse log) (line ∷ [])

  -- the events after the poll of a ready task
  events_then : (is_clone : T → T → Type 0) (from at : DriverState T) (i polls : ℕ) (log : Log T) (answer : Told T) → SoFar is_clone from i polls log at → is_ready from [] i ≡ true
      → events_of (line_of at (Poll i) answer ∷ log) ≡ map Poll (filter (is_ready from []) (numbers (i + 1)))
  events_then is_clone from at i polls log answer here ready = grind (arith, events-more, map-append, numbers_more)

  -- a ready task is polled
  pub so_far_more : (is_clone : T → T → Type 0) (from at to : DriverState T) (i polls : ℕ) (log : Log T) (answer : Told T) → SoFar is_clone from i polls log at → is_ready from [] i ≡ true
      → SettlesOne is_clone at i (Ok tt) answer to → SoFar is_clone from (i + 1) (polls + 1) (line_of at (Poll i) answer ∷ log) to
  so_far_more is_clone from at to i polls log answer here ready one = record {
    drives = drives_join is_clone from at to log (_ ∷ []) here.drives one.drives;
    events = events_then is_clone from at i polls log answer here ready;
    none_refused = ap (λ b. b || has_refused log) one.told ∙ here.none_refused;
    counts = grind (arith, length-append, numbers_more);
    keeps = λ j. grind (arith, here.keeps, one.keeps);
  }

  -- where a poll was refused
  pub settles_refused : (is_clone : T → T → Type 0) (from at to : DriverState T) (i polls : ℕ) (log : Log T) (answer : Told T) (why : Refusal)
      → SoFar is_clone from i polls log at → is_ready from [] i ≡ true → i < length from.tasks
      → SettlesOne is_clone at i (Err why) answer to → Settles is_clone from (Err why) (line_of at (Poll i) answer ∷ log) to
  settles_refused is_clone from at to i polls log answer why here ready within one =
      let rest = begin_numbers (length from.tasks - (i + 1)) (i + 1) (length from.tasks) (omega arith) in
      let events = events_then is_clone from at i polls log answer here ready in
      record {
        drives = drives_join is_clone from at to log (_ ∷ []) here.drives one.drives;
        polls_ready = record {
          polls = (filter (is_ready from []) rest.0, grind (arith, events, rest.1, map-append, filter-append));
          counts = (one.told, here.none_refused);
        };
        keeps = λ j. grind (arith, here.keeps, one.keeps);
      }

  same_size : (from at : DriverState T) → map (λ task. task.kind) at.tasks ≡ map (λ task. task.kind) from.tasks ++ [] → length at.tasks ≡ length from.tasks
  same_size from at same = let lengths = ap (λ all. length all) same in grind (arith, lengths, length-map, append-nil)

  pub keeps_one : (from at : DriverState T) (i : ℕ) (value : Option T) → is_ready from [] i ≡ true → map (λ task. task.kind) at.tasks ≡ map (λ task. task.kind) from.tasks ++ [] → ResultsStay from at
      → Keeps from (line_of from (Poll i) (told.Polled (Ready value)) ∷ []) (keeping i (Some value) at)
  keeps_one from at i value ready kinds stay j = let size = same_size from at kinds in grind (arith, nat_tests, size, slice_get_cases, slice_get-change_same, result-keeping_other, stay)

  -- where the poll is refused
  pub one_refused : (is_clone : T → T → Type 0) (from at : DriverState T) (i : ℕ) (why : Refusal) → ResultsStay from at
      → Drives is_clone from (line_of from (Poll i) (told.Refused why) ∷ []) at → SettlesOne is_clone from i (Err why) (told.Refused why) at
  one_refused is_clone from at i why stay drives = grind (arith, stay)

  pub size_kept : (from at : DriverState T) (i : ℕ) (result : Option (Option T)) → map (λ task. task.kind) at.tasks ≡ map (λ task. task.kind) from.tasks ++ []
      → length (change (with_result result) i at.tasks) ≡ length from.tasks
  size_kept from at i result kinds =
      let changed = map-change (λ (task : Task T). task.kind) (with_result result) (λ t. refl) i at.tasks in
      grind (arith, changed, length-map, same_size)

-- what the tactics use in `Driver::poll_and_keep`
pub ruleset keep_steps = (poll_steps, mark-keeping, ready-keeping, size_kept)

-- what the tactics use in `Driver::result`
pub ruleset result_steps = (result-forgotten, result-keeping_other)
