use Rattle.std.proofs.Common.{◌≡◌, ◌≢◌, ℕ, length, ap, ◌∙◌, refl}
use Rattle.std.proofs.lemmas.Bool.{ne_eqb}
use Rattle.m2v_vlc.specs.declared.values.MbType.{MbType}
use Rattle.m2v_vlc.specs.Tables.{type_i_code, type_p_code, type_b_code}
use Rattle.m2v_macro.specs.Texts.{kind_text}
use Rattle.m2v_choose.proofs.bits.kind_bits.Goals as goal

in_i : (k : ℕ) (v : MbType) → k ≡ 1 → length (type_i_code v) ≡ length (kind_text k v)
unfolding kind_text
in_i k v e = rw e refl

in_p : (k : ℕ) (v : MbType) → k ≡ 2 → length (type_p_code v) ≡ length (kind_text k v)
unfolding kind_text
in_p k v e = rw e refl

in_b : (k : ℕ) (v : MbType) → k ≢ 1 → k ≢ 2 → length (type_b_code v) ≡ length (kind_text k v)
unfolding kind_text
in_b k v one two = rw (ne_eqb k 1 one, ne_eqb k 2 two) refl

pub returns-then-kind-eq1 : goal.returns-then-kind-eq1
returns-then-kind-eq1 c =
    let k = c.args.task.now.context.now.kind in
    record {
      bare = c.bits_in.ensures.value ∙ ap length c.code_type_i.ensures.spelled ∙ in_i k _ c.if-kind-eq1.true;
      kept = c.bits_in-then-kind-eq1.ensures.value ∙ ap length c.code_type_i-then-kind-eq1.ensures.spelled ∙ ap (λ (v : MbType). length (type_i_code v)) c.coded_kind-kept.ensures ∙ in_i k _ c.if-kind-eq1.true;
      sent = c.bits_in-then-kind-eq1-2.ensures.value ∙ ap length c.code_type_i-then-kind-eq1-2.ensures.spelled ∙ ap (λ (v : MbType). length (type_i_code v)) c.coded_kind-sent.ensures ∙ in_i k _ c.if-kind-eq1.true;
      most_bare = c.bits_in.ensures.most;
      most_kept = c.bits_in-then-kind-eq1.ensures.most;
      most_sent = c.bits_in-then-kind-eq1-2.ensures.most;
    }

pub returns-then-kind-eq2 : goal.returns-then-kind-eq2
returns-then-kind-eq2 c =
    let k = c.args.task.now.context.now.kind in
    record {
      bare = c.bits_in-then-kind-eq2.ensures.value ∙ ap length c.code_type_p.ensures.spelled ∙ in_p k _ c.if-kind-eq2.true;
      kept = c.bits_in-then-kind-eq2-2.ensures.value ∙ ap length c.code_type_p-then-kind-eq2.ensures.spelled ∙ ap (λ (v : MbType). length (type_p_code v)) c.coded_kind-kept.ensures ∙ in_p k _ c.if-kind-eq2.true;
      sent = c.bits_in-then-kind-eq2-3.ensures.value ∙ ap length c.code_type_p-then-kind-eq2-2.ensures.spelled ∙ ap (λ (v : MbType). length (type_p_code v)) c.coded_kind-sent.ensures ∙ in_p k _ c.if-kind-eq2.true;
      most_bare = c.bits_in-then-kind-eq2.ensures.most;
      most_kept = c.bits_in-then-kind-eq2-2.ensures.most;
      most_sent = c.bits_in-then-kind-eq2-3.ensures.most;
    }

pub returns : goal.returns
returns c =
    let k = c.args.task.now.context.now.kind in
    record {
      bare = c.bits_in-2.ensures.value ∙ ap length c.code_type_b.ensures.spelled ∙ in_b k _ c.if-kind-eq1.false c.if-kind-eq2.false;
      kept = c.bits_in-3.ensures.value ∙ ap length c.code_type_b-2.ensures.spelled ∙ ap (λ (v : MbType). length (type_b_code v)) c.coded_kind-kept.ensures ∙ in_b k _ c.if-kind-eq1.false c.if-kind-eq2.false;
      sent = c.bits_in-4.ensures.value ∙ ap length c.code_type_b-3.ensures.spelled ∙ ap (λ (v : MbType). length (type_b_code v)) c.coded_kind-sent.ensures ∙ in_b k _ c.if-kind-eq1.false c.if-kind-eq2.false;
      most_bare = c.bits_in-2.ensures.most;
      most_kept = c.bits_in-3.ensures.most;
      most_sent = c.bits_in-4.ensures.most;
    }
