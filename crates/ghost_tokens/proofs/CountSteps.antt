-- The ghost side of each function, and which tokens cross threads. Assumes `Logic`.
use Rattle.ghost_tokens.proofs.Words.{◌≡◌, ℕ, suc, ◌+◌, ◌-◌, ◌<◌, Bool, true, false, List, [], ◌∷◌, ◌++◌, refl, sym, arith, IsPrefix, Option, Some, None, IsSome, Ura, full_share, not-OpDef-full_share}
use Rattle.ghost_tokens.proofs.Words.{SProp, ent, sep, ex, guard, emp, via, Lft, Share, Fml, ftrue, fbor, numbers, growing, latest, at_least, Keyless, Halves, Logic, sem, lfts, bor_fracture}
use Rattle.ghost_tokens.proofs.Words.{one, nothing, Lends, basic, own_sum, latest_new, latest_grows, latest_shows, latest_bounds, latest_cut, latest_glue, at_least_dup, ‵, ◌⊛◌, some, given}
use Rattle.ghost_tokens.proofs.Words.{later, ◌$◌, ◌∵◌, !, qed, move, drop, split, fsplit, fjoin, fpick, fpack, pick, learn, check, done, use0, use1, use2, rewrite, updating, await, now, raw}
use Rattle.ghost_tokens.proofs.Words.{show, given_permits, names, counted, outs, right, held, back, table, counts, count_owns, was_given, is_held, permit_owns}
use mathlib.Core.Option.{some as opt_some}
use base.Share

-- the row after these comes back
abbrev pub flip : List ℕ → List (ℕ × Bool) → List (ℕ × Bool)
flip before [] = []
flip [] (r ∷ rows) = (r.0, true) ∷ rows
flip (b ∷ before) (r ∷ rows) = r ∷ flip before rows

pub names_flip : (before : List ℕ) (rows : List (ℕ × Bool)) → names (flip before rows) ≡ names rows
names_flip [] [] = refl
names_flip (b ∷ before) [] = refl
names_flip [] (r ∷ rows) = refl
names_flip (b ∷ before) (r ∷ rows) = let e = names_flip before rows in cc e

pub names_more : (rows : List (ℕ × Bool)) (δ : ℕ) → names (rows ++ (δ, false) ∷ []) ≡ names rows ++ δ ∷ []
names_more [] δ = refl
names_more (r ∷ rows) δ = let e = names_more rows δ in cc e

suc_counted : (b : Bool) (m n : ℕ) → m ≡ suc n → counted b m ≡ suc (counted b n)
suc_counted true m n e = e
suc_counted false m n e = omega (arith, e)

pub outs_more : (rows : List (ℕ × Bool)) (δ : ℕ) → outs (rows ++ (δ, false) ∷ []) ≡ suc (outs rows)
outs_more [] δ = refl
outs_more (r ∷ rows) δ = suc_counted r.1 (outs (rows ++ (δ, false) ∷ [])) (outs rows) (outs_more rows δ)

is_more : (b : Bool) (n : ℕ) → 0 < n → 0 < counted b n
is_more true n h = h
is_more false n h = omega arith

held_keyless : (b : Bool) (δ : ℕ) → Keyless (held b δ)
unfolding latest
held_keyless true δ = tt
held_keyless false δ = tt

back_keyless : (rows : List (ℕ × Bool)) → Keyless (back rows)
back_keyless [] = tt
back_keyless (r ∷ rows) = (held_keyless r.1 r.0, back_keyless rows)

pub count_keyless : (name : Option ℕ) (n : ℕ) → Keyless (count_owns name n)
unfolding latest
count_keyless None n = tt
count_keyless (Some γ) n = λ rows. (tt, (back_keyless rows, λ _. tt))

pub permit_keyless : (name : Option ℕ) (δ : ℕ) (q : Share) → Keyless (permit_owns name δ q)
unfolding latest at_least
permit_keyless None δ q = tt
permit_keyless (Some γ) δ q = ((λ before. tt), tt)

module _ {M : Type 1} {𝓤 : Ura M} (𝓛 : Logic 𝓤) where
  open 𝓛 use {H, A as At}

  abbrev Pr : Type 2
  Pr = SProp 𝓤

  abbrev ◌⊢◌ : Pr → Pr → Type 1
  P ⊢ Q = ent 𝓤 P Q

  abbrev ◌∗◌ : Pr → Pr → Pr
  P ∗ Q = sep 𝓤 P Q

  abbrev ⟦◌⟧ : Fml → Pr
  ⟦ P ⟧ = sem 𝓛 P

  infix 26 ◌⊢◌
  infixr 35 ◌∗◌
  -- nothing is beside the whole of a permit
  alone : (δ : ℕ) (q : Share) (Z : Pr) → ⟦ right δ full_share ⟧ ∗ ⟦ right δ q ⟧ ⊢ Z
  unfolding latest
  alone δ q Z = own_sum 𝓛 (growing numbers) δ (opt_some full_share, 0) (opt_some q, 0) Z (λ c m. absurd (not-OpDef-full_share q (m.0.1.0.0)))

  -- a permit whose row is out
  at_row : (b : Bool) (n δ : ℕ) (q : Share) → ⟦ held b δ ⟧ ∗ ⟦ right δ q ⟧ ⊢ guard 𝓤 (counted b n ≡ suc n) (⟦ held b δ ⟧ ∗ ⟦ right δ q ⟧)
  at_row true n δ q = alone δ q (guard 𝓤 (counted true n ≡ suc n) (⟦ held true δ ⟧ ∗ ⟦ right δ q ⟧))
  at_row false n δ q = qed 𝓛 (‵ ftrue ∷ ‵ (right δ q) ∷ []) ∵ check ! refl $ done !

  -- what is kept, beside a permit
  pub beside : (before : List ℕ) (rows : List (ℕ × Bool)) (δ : ℕ) (q : Share) → IsPrefix (before ++ δ ∷ []) (names rows)
      → ⟦ back rows ⟧ ∗ ⟦ right δ q ⟧ ⊢ guard 𝓤 (0 < outs rows) (⟦ back rows ⟧ ∗ ⟦ right δ q ⟧)
  beside [] [] δ q p = absurd (cc (p.1))
  beside (b ∷ before) [] δ q p = absurd (cc (p.1))
  beside [] (r ∷ rows) δ q p = let same : δ ≡ r.0 = cc (p.1) in
      qed 𝓛 (‵ (back (r ∷ rows)) ∷ ‵ (right δ q) ∷ []) ∵ fsplit ! $ move ! (0 ∷ 2 ∷ []) $ rewrite ! 1 (λ (x : ℕ). ‵ (right x q)) same refl $
      use2 𝓛 (given (counted r.1 (outs rows) ≡ suc (outs rows)) (‵ (held r.1 r.0) ⊛ ‵ (right r.0 q))) (at_row r.1 (outs rows) r.0 q) $ learn ! (λ e. split ! $
      rewrite ! 1 (λ (x : ℕ). ‵ (right x q)) (sym same) refl $ check ! (omega (arith, e)) $ move ! (0 ∷ 2 ∷ []) $ fjoin ! $ done !)
  beside (b ∷ before) (r ∷ rows) δ q p = let rest : IsPrefix (before ++ δ ∷ []) (names rows) = (p.0, cc (p.1)) in
      qed 𝓛 (‵ (back (r ∷ rows)) ∷ ‵ (right δ q) ∷ []) ∵ fsplit ! $ move ! (1 ∷ 2 ∷ []) $
      use2 𝓛 (given (0 < outs rows) (‵ (back rows) ⊛ ‵ (right δ q))) (beside before rows δ q rest) $ learn ! (λ e. split ! $
      check ! (is_more r.1 (outs rows) e) $ move ! (2 ∷ 0 ∷ []) $ fjoin ! $ done !)

  -- a permit comes back
  pub flips : (before : List ℕ) (rows : List (ℕ × Bool)) (δ : ℕ) → IsPrefix (before ++ δ ∷ []) (names rows)
      → ⟦ back rows ⟧ ∗ ⟦ right δ full_share ⟧ ⊢ guard 𝓤 (outs rows ≡ suc (outs (flip before rows))) ⟦ back (flip before rows) ⟧
  flips [] [] δ p = absurd (cc (p.1))
  flips (b ∷ before) [] δ p = absurd (cc (p.1))
  flips [] (r ∷ rows) δ p = let same : δ ≡ r.0 = cc (p.1) in
      qed 𝓛 (‵ (back (r ∷ rows)) ∷ ‵ (right δ full_share) ∷ []) ∵ fsplit ! $ move ! (0 ∷ 2 ∷ []) $ rewrite ! 1 (λ (x : ℕ). ‵ (right x full_share)) same refl $
      use2 𝓛 (given (counted r.1 (outs rows) ≡ suc (outs rows)) (‵ (held r.1 r.0) ⊛ ‵ (right r.0 full_share))) (at_row r.1 (outs rows) r.0 full_share) $ learn ! (λ e. split ! $ drop ! $
      check ! e $ fjoin ! $ done !)
  flips (b ∷ before) (r ∷ rows) δ p = let rest : IsPrefix (before ++ δ ∷ []) (names rows) = (p.0, cc (p.1)) in
      qed 𝓛 (‵ (back (r ∷ rows)) ∷ ‵ (right δ full_share) ∷ []) ∵ fsplit ! $ move ! (1 ∷ 2 ∷ []) $
      use2 𝓛 (given (outs rows ≡ suc (outs (flip before rows))) (‵ (back (flip before rows)))) (flips before rows δ rest) $ learn ! (λ e.
      check ! (suc_counted r.1 (outs rows) (outs (flip before rows)) e) $ move ! (1 ∷ 0 ∷ []) $ fjoin ! $ done !)

  pub more_back : (rows : List (ℕ × Bool)) (δ : ℕ) → ⟦ back rows ⟧ ⊢ ⟦ back (rows ++ (δ, false) ∷ []) ⟧
  more_back [] δ = qed 𝓛 (‵ ftrue ∷ []) ∵ nothing ! $ fjoin ! $ done !
  more_back (r ∷ rows) δ = qed 𝓛 (‵ (back (r ∷ rows)) ∷ []) ∵ fsplit ! $ move ! (1 ∷ []) $ use1 𝓛 (‵ (back (rows ++ (δ, false) ∷ []))) (more_back rows δ) $ move ! (1 ∷ 0 ∷ []) $ fjoin ! $ done !

  -- the parts of a count
  pub packs : (γ n : ℕ) (rows : List (ℕ × Bool)) → outs rows ≡ n → ⟦ latest given_permits full_share γ (names rows) ⟧ ∗ ⟦ back rows ⟧ ⊢ ⟦ counts γ n ⟧
  packs γ n rows e = qed 𝓛 (‵ (latest given_permits full_share γ (names rows)) ∷ ‵ (back rows) ∷ []) ∵ nothing ! $ fpack ! (outs rows ≡ n) (λ _. ftrue) e $ move ! (2 ∷ 0 ∷ []) $ fjoin ! $
      move ! (1 ∷ 0 ∷ []) $ fjoin ! $ fpack ! (List (ℕ × Bool)) (table γ n) rows $ done !

  pub opens_empty : emp 𝓤 ⊢ H.⇛ (ex 𝓤 (λ (γ : ℕ). ⟦ counts γ 0 ⟧))
  opens_empty = qed 𝓛 [] ∵ updating ! $ use0 𝓛 (later (some (λ (γ : ℕ). ‵ (latest given_permits full_share γ [])))) (via 𝓤 _ (latest_new given_permits 𝓛 []) (basic 𝓛 _)) $ await ! tt $ pick ! (λ γ.
      nothing ! $ move ! (1 ∷ 0 ∷ []) $ use2 𝓛 (‵ (counts γ 0)) (packs γ 0 [] refl) $ now ! $ show ! (λ (γ : ℕ). ⟦ counts γ 0 ⟧) γ $ done !)

  pub gives : (name : Option ℕ) (n : ℕ) → ⟦ count_owns name n ⟧ ⊢ H.⇛ (ex 𝓤 (λ (δ : ℕ). ⟦ count_owns name (n + 1) ⟧ ∗ ⟦ permit_owns name δ full_share ⟧))
  gives None n = qed 𝓛 (‵ ftrue ∷ []) ∵ updating ! $ nothing ! $ now ! $ show ! (λ (δ : ℕ). ⟦ ftrue ⟧ ∗ ⟦ ftrue ⟧) 0 $ done !
  gives (Some γ) n = qed 𝓛 (‵ (counts γ n) ∷ []) ∵ updating ! $ fpick ! (λ rows. fsplit ! $ move ! (1 ∷ []) $ fsplit ! $ move ! (1 ∷ []) $ fpick ! (λ is. drop ! $
      use0 𝓛 (later (some (λ (δ : ℕ). ‵ (right δ full_share)))) (via 𝓤 _ (latest_new numbers 𝓛 0) (basic 𝓛 _)) $ await ! tt $ pick ! (λ δ.
      let l : List ℕ = names rows ++ δ ∷ [] in let rows' : List (ℕ × Bool) = rows ++ (δ, false) ∷ [] in
      move ! (2 ∷ []) $ use1 𝓛 (later (‵ (latest given_permits full_share γ l))) (via 𝓤 _ (latest_grows given_permits 𝓛 γ (names rows) l (δ ∷ [], refl)) (basic 𝓛 _)) $ await ! tt $
      use1 𝓛 (‵ (latest given_permits full_share γ l) ⊛ ‵ (at_least given_permits γ l)) (latest_shows given_permits 𝓛 full_share γ l l (given_permits.same l)) $ split ! $
      rewrite ! 0 (λ (x : List ℕ). ‵ (latest given_permits full_share γ x)) (sym (names_more rows δ)) refl $ move ! (1 ∷ []) $ fpack ! (List ℕ) (was_given γ δ) (names rows) $ move ! (0 ∷ 2 ∷ []) $
      fjoin ! $
      move ! (2 ∷ []) $ use1 𝓛 (‵ (back rows')) (more_back rows δ) $ move ! (2 ∷ 0 ∷ []) $ use2 𝓛 (‵ (counts γ (n + 1))) (packs γ (n + 1) rows' (omega (arith, outs_more rows δ, is))) $
      now ! $ show ! (λ (δ : ℕ). ⟦ counts γ (n + 1) ⟧ ∗ ⟦ is_held γ δ full_share ⟧) δ $ done !)))

  abbrev pub Taken : Option ℕ → ℕ → Type 0
  Taken name n = IsSome name → n ≡ (n - 1) + 1

  pub takes : (name : Option ℕ) (n δ : ℕ) → ⟦ count_owns name n ⟧ ∗ ⟦ permit_owns name δ full_share ⟧ ⊢ guard 𝓤 (Taken name n) ⟦ count_owns name (n - 1) ⟧
  takes None n δ = qed 𝓛 (‵ ftrue ∷ ‵ ftrue ∷ []) ∵ drop ! $ check ! (λ no. absurd (cc no)) $ done !
  takes (Some γ) n δ = qed 𝓛 (‵ (counts γ n) ∷ ‵ (is_held γ δ full_share) ∷ []) ∵ fpick ! (λ rows. fsplit ! $ move ! (1 ∷ []) $ fsplit ! $ move ! (1 ∷ []) $ fpick ! (λ is. drop ! $
      move ! (2 ∷ []) $ fsplit ! $ fpick ! (λ before. move ! (3 ∷ 0 ∷ []) $
      use2 𝓛 (given (IsPrefix (before ++ δ ∷ []) (names rows)) (‵ (latest given_permits full_share γ (names rows)) ⊛ ‵ (was_given γ δ before)))
      (latest_bounds given_permits 𝓛 full_share γ (names rows) (before ++ δ ∷ [])) $
      learn ! (λ p. split ! $ move ! (1 ∷ []) $ drop ! $ move ! (2 ∷ 1 ∷ []) $ let rows' : List (ℕ × Bool) = flip before rows in
      use2 𝓛 (given (outs rows ≡ suc (outs rows')) (‵ (back rows'))) (flips before rows δ p) $ learn ! (λ fewer. move ! (1 ∷ []) $
      rewrite ! 0 (λ (x : List ℕ). ‵ (latest given_permits full_share γ x)) (sym (names_flip before rows)) refl $ use2 𝓛 (‵ (counts γ (n - 1))) (packs γ (n - 1) rows' (omega (arith, fewer, is))) $
      check ! (λ _. omega (arith, fewer, is)) $ done !)))))

  abbrev pub Shown : Option ℕ → ℕ → Type 0
  Shown name n = IsSome name → 0 < n

  pub proves_counted : (name : Option ℕ) (n δ : ℕ) (q : Share) → ⟦ permit_owns name δ q ⟧ ∗ ⟦ count_owns name n ⟧ ⊢ guard 𝓤 (Shown name n) (⟦ permit_owns name δ q ⟧ ∗ ⟦ count_owns name n ⟧)
  proves_counted None n δ q = qed 𝓛 (‵ ftrue ∷ ‵ ftrue ∷ []) ∵ check ! (λ no. absurd (cc no)) $ done !
  proves_counted (Some γ) n δ q = qed 𝓛 (‵ (is_held γ δ q) ∷ ‵ (counts γ n) ∷ []) ∵ move ! (1 ∷ []) $ fpick ! (λ rows. fsplit ! $ move ! (1 ∷ []) $ fsplit ! $ move ! (1 ∷ []) $ fpick ! (λ is. drop ! $
      move ! (2 ∷ []) $ fsplit ! $ fpick ! (λ before. move ! (3 ∷ 0 ∷ []) $
      use2 𝓛 (given (IsPrefix (before ++ δ ∷ []) (names rows)) (‵ (latest given_permits full_share γ (names rows)) ⊛ ‵ (was_given γ δ before)))
      (latest_bounds given_permits 𝓛 full_share γ (names rows) (before ++ δ ∷ [])) $
      learn ! (λ p. split ! $ move ! (3 ∷ 2 ∷ []) $
      use2 𝓛 (given (0 < outs rows) (‵ (back rows) ⊛ ‵ (right δ q))) (beside before rows δ q p) $ learn ! (λ some_out. split ! $
      move ! (2 ∷ 0 ∷ []) $ use2 𝓛 (‵ (counts γ n)) (packs γ n rows is) $
      move ! (2 ∷ []) $ fpack ! (List ℕ) (was_given γ δ) before $ move ! (0 ∷ 2 ∷ []) $ fjoin ! $ check ! (λ _. omega (arith, some_out, is)) $ done !)))))

  -- what a `&` to a permit holds: some share of it
  halved : (name : Option ℕ) (δ : ℕ) (q : Share) → ⟦ permit_owns name δ q ⟧ ⊢ ⟦ permit_owns name δ (Share.left q) ⟧ ∗ ⟦ permit_owns name δ (Share.right q) ⟧
  halved None δ q = qed 𝓛 (‵ ftrue ∷ []) ∵ nothing ! $ done !
  halved (Some γ) δ q = qed 𝓛 (‵ (is_held γ δ q) ∷ []) ∵ fsplit ! $ fpick ! (λ before.
      use1 𝓛 (‵ (was_given γ δ before) ⊛ ‵ (was_given γ δ before)) (at_least_dup given_permits 𝓛 γ (before ++ δ ∷ [])) $ split ! $ move ! (2 ∷ []) $
      use1 𝓛 (‵ (right δ (Share.left q)) ⊛ ‵ (right δ (Share.right q))) (latest_cut numbers 𝓛 q (Share.left q) (Share.right q) δ 0 (Share.halves q)) $ split ! $
      move ! (2 ∷ []) $ fpack ! (List ℕ) (was_given γ δ) before $ fjoin ! $ move ! (2 ∷ []) $ fpack ! (List ℕ) (was_given γ δ) before $ move ! (0 ∷ 2 ∷ []) $ fjoin ! $ move ! (1 ∷ 0 ∷ []) $ done !)

  joined : (name : Option ℕ) (δ : ℕ) (q : Share) → ⟦ permit_owns name δ (Share.left q) ⟧ ∗ ⟦ permit_owns name δ (Share.right q) ⟧ ⊢ ⟦ permit_owns name δ q ⟧
  joined None δ q = qed 𝓛 (‵ ftrue ∷ ‵ ftrue ∷ []) ∵ drop ! $ done !
  joined (Some γ) δ q = qed 𝓛 (‵ (is_held γ δ (Share.left q)) ∷ ‵ (is_held γ δ (Share.right q)) ∷ []) ∵ fsplit ! $ move ! (2 ∷ []) $ fsplit ! $ drop ! $ move ! (2 ∷ 0 ∷ []) $
      use2 𝓛 (‵ (right δ q)) (latest_glue numbers 𝓛 q (Share.left q) (Share.right q) δ 0 (Share.halves q)) $ move ! (1 ∷ 0 ∷ []) $ fjoin ! $ done !

  pub halves : (name : Option ℕ) (δ : ℕ) → Halves 𝓤 H At (permit_owns name δ)
  halves name δ = record { cut = λ q. halved name δ q; join = λ q. joined name δ q }

  pub permit_lends : (name : Option ℕ) (δ : ℕ) (l : Lft) → Lends 𝓛 (permit_owns name δ full_share) (one (permit_owns name δ)) l
  permit_lends name δ l κ ts inc sp = qed 𝓛 (‵ (fbor κ (permit_owns name δ full_share)) ∷ raw (lfts 𝓛 ts) ∷ []) ∵ updating ! $ bor_fracture ! tt (permit_owns name δ) full_share $ now ! $ done !
