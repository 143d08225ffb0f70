-- What the tokens own. A count knows the name of each permit that it ever gave, and holds each that
-- came back; a permit is the right to its own name, and knows that the count gave it.
use Rattle.core.specs.Prelude.{map}
use Rattle.std.specs.Prelude.{◌≡◌, ℕ, suc, Bool, true, false, List, [], ◌∷◌, ◌++◌, Option, Some, None}
use base.Stored.{Gv, Coded, coded_ℕ}
use base.Fraction.{full_share}
use base.Growing.{Order, numbers, prefixes, latest, at_least}
use base.Fml.{Share, Fml, ftrue, fsep, fex}

-- The list is kept as its ghost values, in an algebra that names no type parameter
abbrev pub itself : Coded Gv
itself = record { code = λ g. g; inj = λ x y p. p }

abbrev pub lists : Order (List Gv)
lists = prefixes itself

module _ {E : Type 0} (code : E → Gv) where
  -- the list of this name is this list, and nobody else can make it longer. The whole share can
  abbrev pub log_owns : ℕ → List E → Share → Fml
  log_owns γ xs q = latest lists q γ (map code xs)

  -- the list of this name begins with this list
  abbrev pub seen_owns : ℕ → List E → Fml
  seen_owns γ xs = at_least lists γ (map code xs)

-- the permits that were given, one after the other
abbrev pub given_permits : Order (List ℕ)
given_permits = prefixes coded_ℕ

abbrev pub names : List (ℕ × Bool) → List ℕ
names [] = []
names (r ∷ rows) = r.0 ∷ names rows

abbrev pub counted : Bool → ℕ → ℕ
counted true n = n
counted false n = suc n

-- how many of them are out: the others came back
abbrev pub outs : List (ℕ × Bool) → ℕ
outs [] = 0
outs (r ∷ rows) = counted r.1 (outs rows)

-- a share of the permit of this name
abbrev pub right : ℕ → Share → Fml
right δ q = latest numbers q δ 0

abbrev pub held : Bool → ℕ → Fml
held true δ = right δ full_share
held false δ = ftrue

-- the permits that came back
abbrev pub back : List (ℕ × Bool) → Fml
back [] = ftrue
back (r ∷ rows) = fsep (held r.1 r.0) (back rows)

abbrev pub is_out : ℕ → List (ℕ × Bool) → Fml
is_out n rows = fex (outs rows ≡ n) (λ _. ftrue)

abbrev pub table : ℕ → ℕ → List (ℕ × Bool) → Fml
table γ n rows = fsep (latest given_permits full_share γ (names rows)) (fsep (back rows) (is_out n rows))

abbrev pub counts : ℕ → ℕ → Fml
counts γ n = fex (List (ℕ × Bool)) (table γ n)

-- a count without a name owns nothing
abbrev pub count_owns : Option ℕ → ℕ → Fml
count_owns None n = ftrue
count_owns (Some γ) n = counts γ n

-- the count of this name gave the permit
abbrev pub was_given : ℕ → ℕ → List ℕ → Fml
was_given γ δ before = at_least given_permits γ (before ++ δ ∷ [])

abbrev pub is_held : ℕ → ℕ → Share → Fml
is_held γ δ q = fsep (fex (List ℕ) (was_given γ δ)) (right δ q)

abbrev pub permit_owns : Option ℕ → ℕ → Share → Fml
permit_owns None δ q = ftrue
permit_owns (Some γ) δ q = is_held γ δ q
