-- Recorded histories: from which state they start, which are legal, which serials their entries
-- have, and to which state they lead. All of it is said in the terms of the model.
use Rattle.std.specs.Prelude.{◌≡◌, ◌≤◌, ◌<◌, ◌+◌, ℕ, zero, suc, Bool, true, false, List, [], ◌∷◌, ◌++◌, None, All, map, filter, count_by, nat_eq}
use Rattle.async_cell_wakers.specs.Named.{same_name}
use Rattle.async_cell_wakers.specs.declared.named.Named.{Named}
use Rattle.async_cell_model.specs.declared.cell.Cell.TheVariants.{Open}
use Rattle.async_cell_model.specs.declared.entry.Entry as model
use Rattle.async_cell_model.specs.{Machine.owners_limit, Machine.is_memory, Machine.State, History.History, History.after, Legal.IsLegal}
use Rattle.async_cell_recorded.specs.declared.history.Entry.{Entry}

-- the numbers 0, 1, 2, .. below n, in order
abbrev pub numbers_below : ℕ → List ℕ
numbers_below zero = []
numbers_below (suc n) = numbers_below n ++ n ∷ []

-- a recorded history: the number of owners that its cell started with, and its entries in order
pub record Recording (T : Type 0) : Type 0 where
  pub begin : ℕ
  pub entries : List (Entry T)

-- the same without shares and serials: each entry is a call and its reply, as the model has them
pub record PlainRecording (T : Type 0) : Type 0 where
  pub begin : ℕ
  pub entries : History T Named

module _ {T : Type 0} where
  -- a call and its reply, as the model has them
  abbrev pub plain_entry : Entry T → model.Entry T Named
  plain_entry e = record { call = e.call; reply = e.reply }

  -- a recorded history without its shares and serials
  abbrev pub without_shares : Recording T → PlainRecording T
  without_shares r = record { begin = r.begin; entries = map plain_entry r.entries }

  -- these calls as entries of share 0, with serials from this one on
  abbrev pub of_one_share : ℕ → History T Named → List (Entry T)
  of_one_share serial [] = []
  of_one_share serial (e ∷ rest) =
      record { share = 0; serial = serial; call = e.call; reply = e.reply }
      ∷ of_one_share (serial + 1) rest

  -- a plain history as if share 0 had made all of its calls
  abbrev pub with_one_share : PlainRecording T → Recording T
  with_one_share p = record { begin = p.begin; entries = of_one_share 0 p.entries }

  -- a recorded cell starts open, without a value and without wakers, and with an owner for each
  -- share
  abbrev pub start : ℕ → State T Named
  start owners = record { cell = Open None owners; waiting = []; room = 0 }

  -- the state after a recorded history: the cell, and the wait list
  abbrev pub state : Recording T → State T Named
  state r = after same_name (start r.begin) (map plain_entry r.entries)

  -- whether this share made the entry
  abbrev pub is_of : ℕ → Entry T → Bool
  is_of share e = nat_eq e.share share

  -- how many of the entries this share made
  abbrev pub made_by : ℕ → List (Entry T) → ℕ
  made_by share entries = count_by (is_of share) entries

  -- the serials of this share's entries, in order
  abbrev pub serials_of : ℕ → List (Entry T) → List ℕ
  serials_of share entries = map (λ e. e.serial) (filter (is_of share) entries)

  -- A plain history is legal from its start. A call that found no memory left no entry.
  pub record IsPlain (p : PlainRecording T) : Type 0 where
    pub owned : (1 ≤ p.begin) × (p.begin ≤ owners_limit)
    pub legal : IsLegal same_name true (start p.begin) p.entries
    pub answered : All (λ e. is_memory e.reply ≡ false) p.entries

  -- A recorded history is legal from its start. A call that found no memory left no entry. Each
  -- entry is of a share, and the serials of each share's entries are 0, 1, 2, .. in order.
  pub record IsRecorded (r : Recording T) : Type 0 where
    pub owned : (1 ≤ r.begin) × (r.begin ≤ owners_limit)
    pub legal : IsLegal same_name true (start r.begin) (map plain_entry r.entries)
    pub answered : All (λ e. is_memory e.reply ≡ false) r.entries
    pub of_shares : All (λ e. e.share < r.begin) r.entries
    pub serials : (share : ℕ) → serials_of share r.entries ≡ numbers_below (made_by share r.entries)
