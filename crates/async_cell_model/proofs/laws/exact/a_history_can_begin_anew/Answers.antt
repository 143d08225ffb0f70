use Rattle.async_cell_model.proofs.Words.{[], after}
use Rattle.async_cell_model.proofs.Exact.{NoClone, legal_of_exact, exact_of_legal}
use Rattle.async_cell_model.proofs.JoinedHistory.{cell_after-append, waiting-append, room-append}
use Rattle.async_cell_model.proofs.Whole.{IsSound-after, IsLegal-anew, IsLegalAfter-first}
use Rattle.async_cell_model.proofs.laws.exact.a_history_can_begin_anew.Goals as goal

pub returns : goal.returns
returns ctx c = record {
  begins = λ will_wake sure b g sound legal.
      IsSound-after NoClone will_wake sure b g sound (legal_of_exact will_wake sure b g legal);
  front = λ will_wake sure b g h legal.
      exact_of_legal will_wake sure b g
      (IsLegalAfter-first NoClone will_wake sure b [] g h (legal_of_exact will_wake sure b _ legal));
  legal = λ will_wake sure b g h sound legal.
      exact_of_legal will_wake sure (after will_wake b g) h
      (IsLegal-anew NoClone will_wake sure b g h sound (legal_of_exact will_wake sure b _ legal));
  cell = λ will_wake b g h. cell_after-append b.cell g h;
  waiting = λ will_wake b g h. waiting-append will_wake b g h;
  room = λ will_wake b g h sound. room-append will_wake b g h sound.none_skipped;
}
