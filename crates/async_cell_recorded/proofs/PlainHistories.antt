-- Histories without their shares, and plain histories as those of one share.
use Rattle.async_cell_recorded.proofs.Words.{◌≡◌, ◌<◌, ◌+◌, ℕ, suc, false, List, [], ◌∷◌, ◌++◌, length, map, refl, ap, arith, append-nil, append_assoc, All, All-nil, All-cons, All-head, All-tail}
use Rattle.async_cell_recorded.proofs.Words.{All-map, Named, History, is_memory, Entry, Recording, PlainRecording, IsRecorded, IsPlain, plain_entry, without_shares, of_one_share, with_one_share}
use Rattle.async_cell_recorded.proofs.Words.{made_by, serials_of, numbers_below}
use Rattle.async_cell_model.specs.declared.entry.Entry as model
use Rattle.async_cell_recorded.proofs.Histories.{serials_more, made_by-snoc}

module _ {T : Type 0} where
  abbrev IsAnswered : model.Entry T Named → Type 0
  IsAnswered e = is_memory e.reply ≡ false

  -- a recorded history is legal without its shares, too
  pub plain_is : (r : Recording T) → IsRecorded r → IsPlain (without_shares r)
  plain_is r recorded = record { owned = recorded.owned; legal = recorded.legal; answered = All-map IsAnswered plain_entry r.entries recorded.answered }

  -- a call as an entry of share 0
  abbrev pub entry_at : ℕ → model.Entry T Named → Entry T
  entry_at serial e = record { share = 0; serial = serial; call = e.call; reply = e.reply }

  -- one more call
  pub one_more : (serial last : ℕ) (h : History T Named) (e : model.Entry T Named) → last ≡ serial + length h → of_one_share serial (h ++ e ∷ []) ≡ of_one_share serial h ++ entry_at last e ∷ []
  one_more serial last [] e is = ap (λ (n : ℕ). entry_at n e ∷ []) (omega arith)
  one_more serial last (x ∷ h) e is = ap (λ (l : List (Entry T)). entry_at serial x ∷ l) (one_more (serial + 1) last h e (omega arith))

  -- without its shares it is the plain history
  pub same_calls : (serial : ℕ) (h : History T Named) → map plain_entry (of_one_share serial h) ≡ h
  same_calls serial [] = refl
  same_calls serial (e ∷ h) = simp (same_calls (serial + 1) h)

  -- what follows for its entries from what is true of its calls
  carried : (P : model.Entry T Named → Type 0) (Q : Entry T → Type 0) → ((serial : ℕ) (e : model.Entry T Named) → P e → Q (entry_at serial e))
      → (serial : ℕ) (h : History T Named) → All P h → All Q (of_one_share serial h)
  carried P Q then serial [] each = All-nil Q
  carried P Q then serial (x ∷ h) each =
      All-cons Q (entry_at serial x) (of_one_share (serial + 1) h) (then serial x (All-head P x h each)) (carried P Q then (serial + 1) h (All-tail P x h each))

  abbrev InOrder : List (Entry T) → Type 0
  InOrder h = (share : ℕ) → serials_of share h ≡ numbers_below (made_by share h)

  in_order : (before : List (Entry T)) (serial : ℕ) (h : History T Named) → serial ≡ made_by 0 before → InOrder before → InOrder (before ++ of_one_share serial h)
  in_order before serial [] next was = rw append-nil was
  in_order before serial (x ∷ h) next was =
      let e : Entry T = entry_at serial x in
      let more : made_by 0 (before ++ e ∷ []) ≡ suc (made_by 0 before) = grind (arith, made_by-snoc 0 before e) in
      rw (← append_assoc before (e ∷ []) (of_one_share (serial + 1) h)) (in_order (before ++ e ∷ []) (serial + 1) h (omega (arith, next, more)) (serials_more before e next was))

  -- a plain history is one of a single share
  pub carried_is : (p : PlainRecording T) → IsPlain p → IsRecorded (with_one_share p)
  carried_is p plain = record {
    owned = plain.owned;
    legal = rw (same_calls 0 p.entries) plain.legal;
    answered = carried IsAnswered (λ (e : Entry T). is_memory e.reply ≡ false) (λ serial e is. is) 0 p.entries plain.answered;
    of_shares = carried IsAnswered (λ (e : Entry T). e.share < p.begin) (λ serial e is. plain.owned.0) 0 p.entries plain.answered;
    serials = in_order [] 0 p.entries refl (λ share. refl);
  }
