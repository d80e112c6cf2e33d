-- Between two groups: the state there, and where a group begins.
use Rattle.std.proofs.Common.{◌≡◌, ℕ, ◌⊎◌, inl, inr, false, not, ◌&&◌, List, [], ◌∷◌, length, get_or, None, refl, ap, ◌∙◌, arith}
use Rattle.std.specs.Prelude.{nat_eq, is_some}
use Rattle.m2v_order.specs.declared.jobs.PictureJob.{PictureJob}
use Rattle.m2v_order.proofs.Queues.{true_false}
use Rattle.m2v_slice.specs.Headers.{begins_group}
use Rattle.m2v_slice.specs.Books.{Book, no_job, job_at}
use Rattle.m2v_slice.specs.Conditions.{IsBook}
use Rattle.m2v_model.specs.declared.state.State.{State}
use Rattle.m2v_model.specs.States.{at_first}
use Rattle.m2v_model.specs.Streams.{sequence, after}
use Rattle.m2v_enc_stream.specs.Trees.{sequence_by}
use Rattle.m2v_slice.proofs.Firsts.{first_begins}
use Rattle.m2v_enc_stream.proofs.Turns.{IsCounted}
use Rattle.m2v_enc_stream.proofs.States.{first_sequence, next_sequence}
use Rattle.m2v_enc_stream.proofs.TreeGroups.{IsBetween, start_is}
use Rattle.m2v_law_shown.proofs.Heads.{Ready}

pub record Begins (b : Book) (st : State) : Type 0 where
  pub before : ℕ
  pub counted : IsCounted b before
  pub ready : Ready b before 0 st

pub begins_at : (b : Book) → IsBook b → (st : State) → ((b.before ≡ None) × (st ≡ at_first)) ⊎ IsBetween b.settings st → Begins b st
begins_at b h st (inl x) = record {
  before = 0;
  counted = record { most = omega arith; some = λ e. absurd (true_false (is_some b.before) e (ap is_some x.0)) };
  ready = record {
    behind = (false, ap (λ (z : State). after z (sequence (sequence_by b.settings))) x.1 ∙ first_sequence b.settings ∙ start_is b false 0 None);
    plain = λ e. absurd (true_false (begins_group (job_at b 0)) (first_begins b h) e);
  };
}
begins_at b h st (inr x) = record {
  before = x.anchors;
  counted = record { most = x.most; some = λ e. x.one };
  ready = record {
    behind = (
      x.closed,
      ap (λ (z : State). after z (sequence (sequence_by b.settings))) x.is ∙ next_sequence b.settings x.closed x.anchors None x.open_one ∙ start_is b x.closed x.anchors None,
    );
    plain = λ e. absurd (true_false (begins_group (job_at b 0)) (first_begins b h) e);
  };
}

none_there : (xs : List PictureJob) → get_or xs (length xs) no_job ≡ no_job
none_there [] = refl
none_there (x ∷ xs) = none_there xs

pub past_end : (b : Book) → begins_group (job_at b (length b.pictures)) ≡ false
unfolding begins_group
past_end b = ap (λ (j : PictureJob). nat_eq j.kind 1 && not (nat_eq j.structure 2)) (none_there b.pictures)
