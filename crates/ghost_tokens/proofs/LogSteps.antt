-- The ghost side of each function, and which tokens cross threads. Assumes `Logic`.
use Rattle.ghost_tokens.proofs.Words.{Ura, length-map, Gv, Coded, Least, latest, at_least, prefix_anti, prefix_refl, Keyless, Halves, one, basic, latest_new, latest_grows, latest_shows, latest_bounds}
use Rattle.ghost_tokens.proofs.Words.{latest_cut, latest_glue, at_least_dup, at_least_join, prefix_out, prefix_in, if◌then◌else◌, nat_lt, nat_tests, lists, log_owns, seen_owns, ◌≡◌, ℕ, ◌≤◌, Bool, true}
use Rattle.ghost_tokens.proofs.Words.{false, List, [], ◌∷◌, ◌++◌, map, length, refl, inl, inr, arith, Lft, Share, Fml, fbor, full_share, SProp, ent, sep, ex, guard, emp, via, Lends, IsPrefix, ◌⊎◌, ‵}
use Rattle.ghost_tokens.proofs.Words.{◌⊛◌, some, given, ◌$◌, ◌∵◌, !, qed, by, keep, split, pick, learn, check, done, use2, rewrite, updating, now, raw, Logic, sem, lfts, bor_fracture}
use Rattle.ghost_tokens.proofs.Words.{sym, Option, Some, nat_eq, growing, own_sum, not-OpDef-full_share, ◌≢◌}
use Rattle.std.specs.List.{last_or}
use mathlib.Core.Path.{subst}
use mathlib.Core.Option.{some as opt_some}
use base.Share

-- an entry that is added is the last one
pub last_added : {A : Type 0} (o : Option A) (xs : List A) (x : A) → last_or o (xs ++ x ∷ []) ≡ Some x
last_added o [] x = refl
last_added o (y ∷ ys) x = last_added (Some y) ys x

-- a beginning that is as long as the whole is the whole
pub whole_if_long : {A : Type 0} (xs ys : List A) → IsPrefix xs ys → length ys ≤ length xs → xs ≡ ys
whole_if_long [] [] p le = refl
whole_if_long [] (y ∷ ys) p le = absurd (omega arith)
whole_if_long (x ∷ xs) [] p le = absurd (cc (p.1))
whole_if_long (x ∷ xs) (y ∷ ys) p le = let heads : x ≡ y = cc (p.1) in let rest = whole_if_long xs ys (p.0, cc (p.1)) (omega arith) in cc (heads, rest)

-- of two beginnings that are equally long neither is the longer one
pub as_long : {A : Type 0} (xs ys zs : List A) → (zs ≡ xs) ⊎ (zs ≡ ys) → IsPrefix xs zs → IsPrefix ys zs → length xs ≡ length ys → xs ≡ ys
as_long xs ys zs one p q same = elim one [
  | inl is ↦ sym (whole_if_long ys xs (subst (IsPrefix ys) is q) (omega (arith, same)))
  | inr is ↦ whole_if_long xs ys (subst (IsPrefix xs) is p) (omega (arith, same))
]

-- of two beginnings of one list the shorter begins the longer
pub shorter_begins : {A : Type 0} (xs ys zs : List A) → IsPrefix xs zs → IsPrefix ys zs → length xs ≤ length ys → IsPrefix xs ys
shorter_begins [] ys zs p q le = (ys, refl)
shorter_begins (x ∷ xs) [] zs p q le = absurd (omega arith)
shorter_begins (x ∷ xs) (y ∷ ys) [] p q le = absurd (cc (p.1))
shorter_begins (x ∷ xs) (y ∷ ys) (z ∷ zs) p q le =
    let heads : x ≡ y = cc (p.1, q.1) in
    let rest = shorter_begins xs ys zs (p.0, cc (p.1)) (q.0, cc (q.1)) (omega arith) in
    (rest.0, cc (heads, rest.1))

abbrev pub longest : {E : Type 0} → List E → List E → List E
longest xs ys = if nat_lt (length ys) (length xs) then xs else ys

module _ {E : Type 0} (code : E → Gv) where
  pub log_keyless : (γ : ℕ) (xs : List E) (q : Share) → Keyless (log_owns code γ xs q)
  unfolding latest
  log_keyless γ xs q = tt

  pub seen_keyless : (γ : ℕ) (xs : List E) → Keyless (seen_owns code γ xs)
  unfolding at_least
  seen_keyless γ xs = tt

module _ {M : Type 1} {𝓤 : Ura M} (𝓛 : Logic 𝓤) {E : Type 0} (cv : Coded E) where
  open 𝓛 use {H, A as At}

  abbrev Pr : Type 2
  Pr = SProp 𝓤

  abbrev ◌⊢◌ : Pr → Pr → Type 1
  P ⊢ Q = ent 𝓤 P Q

  abbrev ◌∗◌ : Pr → Pr → Pr
  P ∗ Q = sep 𝓤 P Q

  abbrev ⟦◌⟧ : Fml → Pr
  ⟦ P ⟧ = sem 𝓛 P

  infix 26 ◌⊢◌
  infixr 35 ◌∗◌
  abbrev pub log : ℕ → List E → Share → Fml
  log = log_owns cv.code

  abbrev pub seen : ℕ → List E → Fml
  seen = seen_owns cv.code

  pub opens_empty : emp 𝓤 ⊢ H.⇛ (ex 𝓤 (λ (γ : ℕ). ⟦ log γ [] full_share ⟧))
  opens_empty = via 𝓤 _ (latest_new lists 𝓛 []) (basic 𝓛 _)

  pub pushes : (γ : ℕ) (xs : List E) (e : E) → ⟦ log γ xs full_share ⟧ ⊢ H.⇛ ⟦ log γ (xs ++ e ∷ []) full_share ⟧
  pushes γ xs e = via 𝓤 _ (latest_grows lists 𝓛 γ (map cv.code xs) (map cv.code (xs ++ e ∷ [])) (prefix_in cv xs (e ∷ []))) (basic 𝓛 _)

  pub shows : (γ : ℕ) (xs : List E) (q : Share) → ⟦ log γ xs q ⟧ ⊢ ⟦ log γ xs q ⟧ ∗ ⟦ seen γ xs ⟧
  shows γ xs q = latest_shows lists 𝓛 q γ (map cv.code xs) (map cv.code xs) (lists.same (map cv.code xs))

  -- nothing is beside the whole right to a list
  alone : (γ : ℕ) (xs ys : List E) (q : Share) (Z : Pr) → ⟦ log γ xs full_share ⟧ ∗ ⟦ log γ ys q ⟧ ⊢ Z
  unfolding latest
  alone γ xs ys q Z = own_sum 𝓛 (growing lists) γ (opt_some full_share, map cv.code xs) (opt_some q, map cv.code ys) Z (λ c m. absurd (not-OpDef-full_share q (m.0.1.0.0)))

  -- so two of them are of two lists
  apart_if : (γ δ : ℕ) (xs ys : List E) (q : Share) (same : Bool) → nat_eq γ δ ≡ same
      → ⟦ log γ xs full_share ⟧ ∗ ⟦ log δ ys q ⟧ ⊢ guard 𝓤 (γ ≢ δ) (⟦ log γ xs full_share ⟧ ∗ ⟦ log δ ys q ⟧)
  apart_if γ δ xs ys q false e = qed 𝓛 (‵ (log γ xs full_share) ∷ ‵ (log δ ys q) ∷ []) ∵ check ! (λ is. absurd (grind (arith, nat_tests, e, is))) $ done !
  apart_if γ δ xs ys q true e = subst (λ ε. ⟦ log γ xs full_share ⟧ ∗ ⟦ log ε ys q ⟧ ⊢ guard 𝓤 (γ ≢ ε) (⟦ log γ xs full_share ⟧ ∗ ⟦ log ε ys q ⟧)) (grind (arith, nat_tests, e))
      (alone γ xs ys q (guard 𝓤 (γ ≢ γ) (⟦ log γ xs full_share ⟧ ∗ ⟦ log γ ys q ⟧)))

  pub apart : (γ δ : ℕ) (xs ys : List E) (q : Share) → ⟦ log γ xs full_share ⟧ ∗ ⟦ log δ ys q ⟧ ⊢ guard 𝓤 (γ ≢ δ) (⟦ log γ xs full_share ⟧ ∗ ⟦ log δ ys q ⟧)
  apart γ δ xs ys q = apart_if γ δ xs ys q (nat_eq γ δ) refl

  bounds : (γ : ℕ) (xs ys : List E) (q : Share) → ⟦ log γ xs q ⟧ ∗ ⟦ seen γ ys ⟧ ⊢ guard 𝓤 (IsPrefix ys xs) (⟦ log γ xs q ⟧ ∗ ⟦ seen γ ys ⟧)
  bounds γ xs ys q = qed 𝓛 (‵ (log γ xs q) ∷ ‵ (seen γ ys) ∷ []) ∵ use2 𝓛 (given (IsPrefix (map cv.code ys) (map cv.code xs)) (‵ (log γ xs q) ⊛ ‵ (seen γ ys)))
      (latest_bounds lists 𝓛 q γ (map cv.code xs) (map cv.code ys)) $
      learn ! (λ p. check ! (prefix_out cv ys xs p) $ done !)

  pub learns : (γ : ℕ) (xs ys : List E) (q : Share) → ⟦ log γ xs q ⟧ ∗ ⟦ seen γ ys ⟧ ⊢ guard 𝓤 (IsPrefix ys xs) (⟦ log γ xs q ⟧ ∗ ⟦ seen γ xs ⟧)
  learns γ xs ys q = qed 𝓛 (‵ (log γ xs q) ∷ ‵ (seen γ ys) ∷ []) ∵ use2 𝓛 (given (IsPrefix ys xs) (‵ (log γ xs q) ⊛ ‵ (seen γ ys))) (bounds γ xs ys q) $
      learn ! (λ p. check ! p $ split ! $ keep ! (0 ∷ []) $ by ! (shows γ xs q))

  -- what a `&` to a log holds: whoever shows that it is still lent has some share of the right
  pub halves : (γ : ℕ) (xs : List E) → Halves 𝓤 H At (log γ xs)
  halves γ xs = record {
    cut = λ q. latest_cut lists 𝓛 q (Share.left q) (Share.right q) γ (map cv.code xs) (Share.halves q);
    join = λ q.
        latest_glue lists 𝓛 q (Share.left q) (Share.right q) γ (map cv.code xs) (Share.halves q);
  }

  pub log_lends : (γ : ℕ) (xs : List E) (l : Lft) → Lends 𝓛 (log γ xs full_share) (one (log γ xs)) l
  log_lends γ xs l κ ts inc sp = qed 𝓛 (‵ (fbor κ (log γ xs full_share)) ∷ raw (lfts 𝓛 ts) ∷ []) ∵ updating ! $ bor_fracture ! tt (log γ xs) full_share $ now ! $ done !

  pub twice : (γ : ℕ) (xs : List E) → ⟦ seen γ xs ⟧ ⊢ ⟦ seen γ xs ⟧ ∗ ⟦ seen γ xs ⟧
  twice γ xs = at_least_dup lists 𝓛 γ (map cv.code xs)

  abbrev Longer : List E → List E → List E → Type 0
  Longer xs ys zs = ((zs ≡ xs) ⊎ (zs ≡ ys)) × IsPrefix xs zs × IsPrefix ys zs

  -- the least list that both begin is the longer of them
  least_is : (xs ys : List E) (zs : List Gv) (more : Bool) → nat_lt (length ys) (length xs) ≡ more → Least IsPrefix (map cv.code xs) (map cv.code ys) zs
      → (zs ≡ map cv.code (if more then xs else ys)) × Longer xs ys (if more then xs else ys)
  least_is xs ys zs false e least = let c = cv.code in
      let on = shorter_begins (map c xs) (map c ys) zs least.0 least.1 (grind (arith, nat_tests, e, length-map xs c, length-map ys c)) in
      (prefix_anti zs (map c ys) (least.2 (map c ys) on (prefix_refl (map c ys))) least.1, (inr refl, prefix_out cv xs ys on, prefix_refl ys))
  least_is xs ys zs true e least = let c = cv.code in
      let on = shorter_begins (map c ys) (map c xs) zs least.1 least.0 (grind (arith, nat_tests, e, length-map xs c, length-map ys c)) in
      (prefix_anti zs (map c xs) (least.2 (map c xs) (prefix_refl (map c xs)) on) least.0, (inl refl, prefix_refl xs, prefix_out cv ys xs on))

  pub joins : (γ : ℕ) (xs ys : List E) → ⟦ seen γ xs ⟧ ∗ ⟦ seen γ ys ⟧ ⊢ guard 𝓤 (Longer xs ys (longest xs ys)) ⟦ seen γ (longest xs ys) ⟧
  joins γ xs ys = qed 𝓛 (‵ (seen γ xs) ∷ ‵ (seen γ ys) ∷ []) ∵
      use2 𝓛 (some (λ (zs : List Gv). given (Least IsPrefix (map cv.code xs) (map cv.code ys) zs) (‵ (at_least lists γ zs)))) (at_least_join lists 𝓛 γ (map cv.code xs) (map cv.code ys)) $
      pick ! (λ zs. learn ! (λ least.
      let is = least_is xs ys zs (nat_lt (length ys) (length xs)) refl least in rewrite ! 0 (λ (l : List Gv). ‵ (at_least lists γ l)) is.0 refl $ check ! is.1 $ done !))
