-- What an audit adds up.
use Rattle.std.proofs.Common.{◌≡◌, ◌+◌, ℕ, List, [], ◌∷◌, refl, arith}
use Rattle.std.specs.List.{AllZip, sum, sum_by}
use Rattle.std.proofs.lemmas.List.Sums.{sum_by-cons}
use Rattle.async_cell_recorded.specs.Counting.{ShareState}

-- where each of the answers is its share's count, their sum is that of the counts
pub sum_counts : (answered : List ℕ) (shares : List ShareState) → AllZip (λ (a : ℕ) (s : ShareState). a ≡ s.count) answered shares → sum_by (λ (s : ShareState). s.count) shares ≡ sum answered
sum_counts [] [] each = refl
sum_counts [] (s ∷ shares) each = absurd each
sum_counts (a ∷ answered) [] each = absurd each
sum_counts (a ∷ answered) (s ∷ shares) each =
    omega (arith, sum_by-cons (λ (x : ShareState). x.count) s shares, sum_by-cons (λ (x : ℕ). x) a answered, each.0, sum_counts answered shares each.1)
