-- Bytes in which no two zeros stand together, taken at once.
use Rattle.std.proofs.Common.{◌≡◌, ℕ, zero, suc, ◌+◌, ◌≤◌, ◌<◌, ◌^◌, Bool, true, false, List, [], ◌∷◌, ◌++◌, length, take, drop, Option, Some, None, refl, sym, ap, subst, ◌∙◌, append_assoc, arith}
use Rattle.std.specs.Prelude.{nat_eq}
use Rattle.std.proofs.lemmas.Bool.{ne_eqb}
use Rattle.std.proofs.lemmas.List.{length-drop, length-take-le, take-append-drop}
use Rattle.m2v_model.specs.declared.phase.Phase.{Phase}
use Rattle.m2v_model.specs.declared.phase.Phase.TheVariants.{Before, Headers, Picture}
use Rattle.m2v_model.specs.Pieces.{Limit, most_input, most_bytes}
use Rattle.m2v_dec_piece.specs.Cutting.{Held, Fits, Took, TookAll, IsRun, behind, limit_in, limit_of, pieces_behind, start_behind, follows_behind}
use Rattle.m2v_dec_piece.specs.Stepping.{Reaches, before_more}
use Rattle.m2v_dec_piece.proofs.LimitLaws.{few_fit, behind_none, behind_more, limit_of_more, limit_of_stays}
use Rattle.m2v_dec_piece.proofs.RunLaws.{run_tail, run_last, run_pair}
use Rattle.m2v_dec_piece.proofs.Steps.{took_other, took_longer}

-- where bytes pass no limit those that stand first pass none
front_fits : (h : Held) (xs ys : List ℕ) → limit_of h (xs ++ ys) ≡ None → limit_of h xs ≡ None
front_fits h xs ys none = by_case (limit_of h xs) refl
  where
    by_case : (o : Option Limit) → limit_of h xs ≡ o → limit_of h xs ≡ None
    by_case None e = e
    by_case (Some l) e = absurd (let some = limit_of_stays h xs ys l e in let no : None ≡ Some l = sym none ∙ some in cc)

took_none : (h : Held) → Fits h → TookAll h [] h
took_none h fits = record { pieces = λ text. refl; start = λ text. refl; follows = λ text. refl; more = omega arith; phase = refl; onward = omega arith; fits = fits }

took_more : (h now new : Held) (b : ℕ) (bs : List ℕ) → Took h b now → now.phase ≡ h.phase → TookAll now bs new → TookAll h (b ∷ bs) new
took_more h now new b bs one phase all = record {
  pieces = λ text. one.pieces (bs ++ text) ∙ all.pieces text;
  start = λ text. one.start (bs ++ text) ∙ all.start text;
  follows = λ text. one.follows (bs ++ text) ∙ all.follows text;
  more = omega (arith, one.more, all.more);
  phase = all.phase ∙ phase;
  onward = omega (arith, one.onward, all.onward);
  fits = all.fits;
}

not_zero : (b : ℕ) → nat_eq (suc b) 0 ≡ false
not_zero b = ne_eqb (suc b) 0 (λ e. absurd (omega (arith, e)))

-- bytes in which no two zeros stand together, behind no byte of a prefix
took_all : (phase : Phase) (place : ℕ) (sure bs : List ℕ) → IsRun bs → Fits (record { phase = phase; place = place; sure = sure; ahead = 0 })
    → limit_of (record { phase = phase; place = place; sure = sure; ahead = 0 }) bs ≡ None
    → TookAll (record { phase = phase; place = place; sure = sure; ahead = 0 }) bs (behind (record { phase = phase; place = place; sure = sure; ahead = 0 }) bs)
took_all phase place sure [] run fits none =
    let h : Held = record { phase = phase; place = place; sure = sure; ahead = 0 } in
    subst (TookAll h []) (behind_none h) (took_none h fits)
took_all phase place sure (suc b ∷ bs) run fits none =
    let h : Held = record { phase = phase; place = place; sure = sure; ahead = 0 } in
    let now = behind h (suc b ∷ []) in
    let first = front_fits h (suc b ∷ []) bs none in
    let one : Took h (suc b) now = took_other h now (suc b) (omega arith) (not_zero b) (λ two. absurd (omega arith)) fits refl first in
    let rest : limit_of now bs ≡ None = sym (limit_of_more h (suc b ∷ []) bs first) ∙ none in
    let all = took_all phase now.place now.sure bs (run_tail (suc b) bs run) one.fits rest in
    subst (TookAll h (suc b ∷ bs)) (behind_more h (suc b ∷ []) bs) (took_more h now (behind now bs) (suc b) bs one refl all)
took_all phase place sure (zero ∷ []) run fits none = absurd (let some = run_last 0 run in omega (arith, some))
took_all phase place sure (zero ∷ zero ∷ bs) run fits none = absurd (run_pair bs run)
took_all phase place sure (zero ∷ suc b ∷ bs) run fits none =
    let h : Held = record { phase = phase; place = place; sure = sure; ahead = 0 } in
    let longer : Held = record { phase = phase; place = place; sure = sure; ahead = 1 } in
    let now = behind h (0 ∷ suc b ∷ []) in
    let first = front_fits h (0 ∷ suc b ∷ []) bs none in
    let one : Took h 0 longer = took_longer h longer 0 refl fits refl in
    let two : Took longer (suc b) now = took_other longer now (suc b) (omega arith) (not_zero b) (λ e. absurd (omega arith)) one.fits refl first in
    let rest : limit_of now bs ≡ None = sym (limit_of_more h (0 ∷ suc b ∷ []) bs first) ∙ none in
    let all = took_all phase now.place now.sure bs (run_tail (suc b) bs (run_tail 0 (suc b ∷ bs) run)) two.fits rest in
    let more = took_more longer now (behind now bs) (suc b) bs two refl all in
    subst (TookAll h (0 ∷ suc b ∷ bs)) (behind_more h (0 ∷ suc b ∷ []) bs) (took_more h longer (behind now bs) 0 (suc b ∷ bs) one refl more)

grown_by : (phase : Phase) (place : ℕ) (sure bs : List ℕ) → (phase ≡ Before → ⊥) → place + (length sure + length bs) ≤ most_input → length sure + length bs ≤ most_bytes
    → (limit_in phase place sure bs ≡ None) × (behind (record { phase = phase; place = place; sure = sure; ahead = 0 }) bs ≡ record { phase = phase; place = place; sure = sure ++ bs; ahead = 0 })
unfolding limit_in
grown_by Before place sure bs begun long large = absurd (begun refl)
grown_by Headers place sure bs begun long large = (few_fit place (length sure) bs long large, refl)
grown_by Picture place sure bs begun long large = (few_fit place (length sure) bs long large, refl)

-- the same of a piece that has begun, where the bytes pass no limit
pub took_run : (h new : Held) (bs : List ℕ) → h.ahead ≡ 0 → (h.phase ≡ Before → ⊥) → IsRun bs → Fits h
    → h.place + (length h.sure + length bs) ≤ most_input → length h.sure + length bs ≤ most_bytes → new ≡ record h { sure = h.sure ++ bs } → TookAll h bs new
took_run h new bs none begun some fits long large is =
    let plain : Held = record { phase = h.phase; place = h.place; sure = h.sure; ahead = 0 } in
    let same : plain ≡ h = ap (λ n. record { phase = h.phase; place = h.place; sure = h.sure; ahead = n }) (sym none) in
    let grown = grown_by h.phase h.place h.sure bs begun long large in
    let all = took_all h.phase h.place h.sure bs some (subst Fits (sym same) fits) grown.0 in
    let ends : behind plain bs ≡ new = grown.1 ∙ ap (λ n. record { phase = h.phase; place = h.place; sure = h.sure ++ bs; ahead = n }) (sym none) ∙ sym is in
    subst (λ (x : Held). TookAll x bs new) same (subst (TookAll plain bs) ends all)

pub took_nothing : (h : Held) (bs : List ℕ) → Fits h → TookAll h (take 0 bs) h
took_nothing h bs fits = took_none h fits

-- what follows bytes that were taken
pub took_reaches : (h new : Held) (chunk : List ℕ) (n : ℕ) → 0 < n → n ≤ length chunk → TookAll h (take n chunk) new → new.place + (length new.sure + new.ahead) ≤ 2 ^ 36 + 3
    → Reaches h chunk new (drop n chunk)
took_reaches h new chunk n some within t bound =
    let split = λ (rest : List ℕ). sym (append_assoc (take n chunk) (drop n chunk) rest) ∙ ap (λ (x : List ℕ). x ++ rest) (take-append-drop n chunk) in
    let len : length (take n chunk) ≡ n = length-take-le n chunk within in
    record {
      pieces = λ rest. ap (pieces_behind h) (sym (split rest)) ∙ t.pieces (drop n chunk ++ rest);
      start = λ rest. ap (start_behind h) (sym (split rest)) ∙ t.start (drop n chunk ++ rest);
      follows = λ rest. ap (follows_behind h) (sym (split rest)) ∙ t.follows (drop n chunk ++ rest);
      took = omega (arith, t.more, len, length-drop n chunk, within);
      onward = t.onward;
      fits = t.fits;
      less = omega (arith, t.more, len, some, bound, ap before_more t.phase);
    }
