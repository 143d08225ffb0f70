-- What is counted.
use Rattle.async_cell_recorded.proofs.Words.{◌≡◌, ◌<◌, ℕ, zero, suc, List, [], ◌∷◌, length, map, None, refl, arith, length-append, All, All-nil, All-push, slice_index_or, map-append}
use Rattle.async_cell_recorded.proofs.Words.{Seat, ShareState, IsNew, new_shares, numbers_below}

pub length_new_shares : (n : ℕ) → length (new_shares n) ≡ n
length_new_shares zero = refl
length_new_shares (suc n) = rw length-append (omega (arith, length_new_shares n))

pub new_shares_unused : (n : ℕ) → All IsNew (new_shares n)
new_shares_unused zero = All-nil IsNew
new_shares_unused (suc n) =
    All-push IsNew (new_shares n) (record { number = n; count = 0; picked = 0 }) (new_shares_unused n) (record { count_is = refl; picked_is = refl })

-- the seat of a share whose thread has not ended
abbrev pub seat_of : {O : Type 0} → ShareState → Seat ShareState O
seat_of share = record { share = share; outcome = None }

pub numbers_of_new : (O : Type 0) (n : ℕ) → map (λ (s : ShareState). s.number) (map (λ (s : Seat ShareState O). s.share) (map (seat_of {O = O}) (new_shares n))) ≡ numbers_below n
numbers_of_new O zero = refl
numbers_of_new O (suc n) = simp (map-append, numbers_of_new O n)

-- the shares have the same numbers at the same places
pub same_numbers : {O : Type 0} (xs ys : List (Seat ShareState O)) → length ys ≡ length xs
    → ((k : ℕ) (d : Seat ShareState O) → k < length xs → (slice_index_or ys k d).share.number ≡ (slice_index_or xs k d).share.number)
    → map (λ (s : ShareState). s.number) (map (λ (s : Seat ShareState O). s.share) ys) ≡ map (λ (s : ShareState). s.number) (map (λ (s : Seat ShareState O). s.share) xs)
same_numbers [] [] len each = refl
same_numbers (x ∷ xs) (y ∷ ys) len each =
    let first = each 0 x (omega arith) in
    let rest = same_numbers xs ys (omega (arith, len)) (λ k d below. each (suc k) d (omega (arith, below))) in
    λ i. first i ∷ rest i
same_numbers xs ys len each = absurd (omega (arith, len))
