-- Where one line leads, and logs joined line by line.
use Rattle.async_cell_driver.proofs.Words.{nat_tests, nat_eq, slice_get_past, if◌then◌else◌, DriverState, NamesMatch, result_at, AllSpared, Drives, FitsTold, IsLegal, IsSpared, handed_out, history}
use Rattle.async_cell_driver.proofs.Words.{line_of, Line, Log, is_ready, kinds, lines, log_of, started, with_edit, Event, Poll, Start, Kind, NotReady, Refused, Started, Told, Task, cell_after-append}
use Rattle.async_cell_driver.proofs.Words.{Runs-join-by, Runs-nil, up_to_clones, History, cell_after, RunsUpTo, IsSound, UpToClones, Cell, Refusal, Memory, same_name, Named, Bool, List, None, Option}
use Rattle.async_cell_driver.proofs.Words.{Some, [], ap, append-nil, append_assoc, arith, false, length, length-append, map, refl, subst, suc, sym, true, zero, ℕ, ◌++◌, ◌+◌, ◌∙◌, ◌∷◌, ◌≡◌, length-map}
use Rattle.async_cell_driver.proofs.Words.{map-append, reverse-append, IfErr, IfOk, Result, slice_get, is_ready_mark, mark_at, mark_in, mark_told, woken_if, is_named}
use Rattle.async_cell_driver.specs.declared.{tasks.Mark.TheVariants.Ready, event.Told.TheVariants.Polled}
use Rattle.async_cell_driver.proofs.TaskList.{awake}

module _ {T : Type 0} where
  -- a task that was just started
  abbrev pub fresh : Kind → Task T
  fresh kind = record { kind = kind; mark = Ready; result = None }

  -- a task is the new one, or is as it was
  with_fresh : (tasks : List (Task T)) (kind : Kind) (i : ℕ) → slice_get (tasks ++ fresh kind ∷ []) i ≡ (if nat_eq (length tasks) i then Some (fresh kind) else slice_get tasks i)
  with_fresh [] kind zero = refl
  with_fresh [] kind (suc i) = grind (arith, nat_tests)
  with_fresh (t ∷ tasks) kind zero = grind (arith, nat_tests)
  with_fresh (t ∷ tasks) kind (suc i) = let rest = with_fresh tasks kind i in grind (arith, nat_tests, rest)

  -- a new task waits for nothing
  pub covered_with_fresh : (from : DriverState T) (kind : Kind) → NamesMatch from → NamesMatch (record from { tasks = from.tasks ++ fresh kind ∷ [] })
  covered_with_fresh from kind covered = grind (arith, nat_tests, with_fresh, slice_get_past, covered.0, covered.1)

  -- where a task is not polled
  pub not_polled : (from : DriverState T) (i : ℕ) (is_clone : T → T → Type 0) → IsSound same_name from.core → NamesMatch from → is_ready from [] i ≡ false
      → Drives is_clone from (line_of from (Poll i) (Polled NotReady) ∷ []) from
  not_polled from i is_clone sound covered not_ready = grind (arith, up_to_clones, Runs-nil, append-nil, awake, covered.0, covered.1)

  -- Where a task is started, or the start is refused. The new task and its number are known by what
  -- they equal.
  pub starts_as : (is_clone : T → T → Type 0) (from : DriverState T) (kind : Kind) (tasks : List (Task T)) (number : ℕ) → IsSound same_name from.core → NamesMatch from
      → number ≡ length from.tasks → tasks ≡ from.tasks ++ fresh kind ∷ []
      → Drives is_clone from (line_of from (Start kind) (Started number) ∷ []) (record { core = from.core; tasks = tasks })
  starts_as is_clone from kind tasks number sound covered counts made =
      let leads = up_to_clones is_clone same_name true from.core from.core [] [] (Runs-nil same_name true from.core sound) in
      let none_forgotten = awake _ sound (covered_with_fresh from kind covered).0 in
      rw (counts, made) (grind (arith, with_fresh, length-map, map-append, leads, none_forgotten))

  pub start_refused_as : (is_clone : T → T → Type 0) (from : DriverState T) (kind : Kind) (tasks : List (Task T)) (why : Refusal) → IsSound same_name from.core → NamesMatch from
      → why ≡ Memory → tasks ≡ from.tasks → Drives is_clone from (line_of from (Start kind) (Refused why) ∷ []) (record { core = from.core; tasks = tasks })
  start_refused_as is_clone from kind tasks why sound covered for_memory same = grind (arith, up_to_clones, Runs-nil, append-nil, awake, covered.0, covered.1)

  -- a start, refused or not, leaves the results
  pub results_stay : (before now : List (Task T)) (kind : Kind) (i : ℕ) (result : Result ℕ Refusal)
      → IfOk result (λ number. (number ≡ length before) × (now ≡ before ++ fresh kind ∷ [])) → IfErr result (λ why. (why ≡ Memory) × (now ≡ before))
      → result_at now i ≡ result_at before i
  results_stay before now kind i result started refused = grind (arith, nat_tests, with_fresh, slice_get_past)

  -- no line leads nowhere
  pub drives_nil : (is_clone : T → T → Type 0) (from : DriverState T) → IsSound same_name from.core → NamesMatch from → Drives is_clone from [] from
  drives_nil is_clone from sound covered = record {
    legal = tt;
    core_leads = up_to_clones is_clone same_name true from.core from.core [] [] (Runs-nil same_name true from.core sound);
    kinds_are = refl;
    marks_are = λ i. refl;
    none_forgotten = awake from sound covered.0;
  }

  kinds_join : (from at : DriverState T) (earlier later : Log T) → map (λ task. task.kind) at.tasks ≡ kinds from earlier → kinds at later ≡ kinds from (later ++ earlier)
  kinds_join from at earlier [] same = same
  kinds_join from at earlier (line ∷ later) same = ap (λ all. all ++ started line.event line.told) (kinds_join from at earlier later same)

  marks_join : (from at : DriverState T) (earlier later : Log T) → ((i : ℕ) → mark_at at.tasks i ≡ mark_in from earlier i) → (i : ℕ) → mark_in at later i ≡ mark_in from (later ++ earlier) i
  marks_join from at earlier [] same i = same i
  marks_join from at earlier (line ∷ later) same i =
      ap (λ mark. woken_if (is_named i line.names) (mark_told i line.told line.event mark)) (marks_join from at earlier later same i)

  -- the later lines fit the earlier ones too
  legal_join : (is_clone : T → T → Type 0) (from at : DriverState T) (earlier later : Log T) → Drives is_clone from earlier at → IsLegal at later → IsLegal from (later ++ earlier)
  legal_join is_clone from at earlier [] first legal = first.legal
  legal_join is_clone from at earlier (line ∷ later) first legal = (
    subst (λ (ready : ℕ → Bool). FitsTold (length (kinds from (later ++ earlier))) ready line.event line.told line.names)
        (λ k i. is_ready_mark (marks_join from at earlier later first.marks_are i k))
        (subst (λ (all : List Kind). FitsTold (length all) (is_ready at later) line.event line.told line.names) (kinds_join from at earlier later first.kinds_are) legal.0),
    legal_join is_clone from at earlier later first legal.1,
  )

  -- the core's calls, and what they handed out
  core_join : (from at : DriverState T) (earlier later : Log T) → map (λ task. task.kind) at.tasks ≡ kinds from earlier → at.core.cell ≡ cell_after from.core.cell (history from earlier)
      → (history from (later ++ earlier) ≡ history from earlier ++ history at later) × (handed_out from (later ++ earlier) ≡ handed_out from earlier ++ handed_out at later)
  core_join from at earlier [] same_kinds cell_is = (sym (append-nil (history from earlier)), sym (append-nil (handed_out from earlier)))
  core_join from at earlier (line ∷ later) same_kinds cell_is =
      let before = core_join from at earlier later same_kinds cell_is in
      let kinds_are = kinds_join from at earlier later same_kinds in
      grind (arith, before.0, before.1, kinds_are, cell_is, cell_after-append, append_assoc)

  -- a log, and another from where it leads
  pub drives_join : (is_clone : T → T → Type 0) (from at to : DriverState T) (earlier later : Log T) → Drives is_clone from earlier at → Drives is_clone at later to
      → Drives is_clone from (later ++ earlier) to
  drives_join is_clone from at to earlier later first second =
      record {
        legal = legal_join is_clone from at earlier later first second.legal;
        core_leads =
            let joined = core_join from at earlier later first.kinds_are first.core_leads.cell_is in
            subst (λ (h : History T Named). RunsUpTo same_name true is_clone from.core h (handed_out from (later ++ earlier)) to.core) (sym joined.0)
            (subst (λ (names : List (List Named)). RunsUpTo same_name true is_clone from.core (history from earlier ++ history at later) names to.core) (sym joined.1)
            (Runs-join-by (UpToClones is_clone) same_name true from.core at.core to.core _ _ _ _ first.core_leads second.core_leads));
        kinds_are = second.kinds_are ∙ kinds_join from at earlier later first.kinds_are;
        marks_are = λ i. second.marks_are i ∙ marks_join from at earlier later first.marks_are i;
        none_forgotten = second.none_forgotten;
      }

  lines-append : (events more : List (Event T (Option T → Option T))) (answers others : List (Told T)) (handed later : List (List Named))
      → length answers ≡ length events → length handed ≡ length events
      → lines (events ++ more) (answers ++ others) (handed ++ later) ≡ lines events answers handed ++ lines more others later
  lines-append [] more [] others [] later same same' = refl
  lines-append (e ∷ events) more (t ∷ answers) others (n ∷ handed) later same same' =
      let first : Line T = record { event = e; told = t; names = n } in
      ap (λ (ls : List (Line T)). first ∷ ls) (lines-append events more answers others handed later (omega arith) (omega arith))
  lines-append events more answers others handed later same same' = absurd (omega arith)

  -- the log of joined lists
  pub log_of_append : (events more : List (Event T (Option T → Option T))) (answers others : List (Told T)) (handed later : List (List Named))
      → length answers ≡ length events → length handed ≡ length events
      → log_of (events ++ more) (answers ++ others) (handed ++ later) ≡ log_of more others later ++ log_of events answers handed
  log_of_append events more answers others handed later same same' = grind (arith, lines-append, reverse-append)

  -- these events happened, with these outcomes
  abbrev pub Happened : {E : Type 0} → (E → Option T → Option T) → (T → T → Type 0) → (T → Type 0) → DriverState T → List (Event T E) → List (Told T) → DriverState T → Type 0
  Happened edit is_clone is_infallible from events answers to = (handed : List (List Named)) × (length handed ≡ length events)
      × Drives is_clone from (log_of (map (with_edit edit) events) answers handed) to × AllSpared is_infallible from (log_of (map (with_edit edit) events) answers handed)

  -- and one more
  pub happen_more : {E : Type 0} (edit : E → Option T → Option T) (is_clone : T → T → Type 0) (is_infallible : T → Type 0) (from at to : DriverState T)
      (events : List (Event T E)) (answers : List (Told T)) (event : Event T E) (answer : Told T)
      → length answers ≡ length events → Happened edit is_clone is_infallible from events answers at
      → Drives is_clone at (line_of at (with_edit edit event) answer ∷ []) to → IsSpared is_infallible at.core.cell (with_edit edit event) answer
      → Happened edit is_clone is_infallible from (events ++ event ∷ []) (answers ++ answer ∷ []) to
  happen_more edit is_clone is_infallible from at to events answers event answer same before one spared =
      let line : Line T = line_of at (with_edit edit event) answer in
      let log_is : log_of (map (with_edit edit) (events ++ event ∷ [])) (answers ++ answer ∷ []) (before.0 ++ line.names ∷ []) ≡ line ∷ log_of (map (with_edit edit) events) answers before.0 =
      grind (arith, same, before.1, length-map, map-append, log_of_append) in (
        before.0 ++ line.names ∷ [],
        length-append before.0 (line.names ∷ []) ∙ (ap (λ n. n + 1) before.1 ∙ sym (length-append events (event ∷ []))),
        subst (λ (l : Log T). Drives is_clone from l to) (sym log_is) (drives_join is_clone from at to _ (line ∷ []) before.2 one),
        subst (λ (l : Log T). AllSpared is_infallible from l) (sym log_is)
            (subst (λ (c : Cell T). IsSpared is_infallible c (with_edit edit event) answer) before.2.core_leads.cell_is spared, before.3),
      )

-- what the tactics use where lists of events are joined
pub ruleset joined_lists = (length-map, map-append, log_of_append)
