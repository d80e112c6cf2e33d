-- What the account of a buffer says at the end, from what it says of one picture more.
use Rattle.std.proofs.Common.{◌≡◌, ℕ, ◌+◌, ◌*◌, ◌≤◌, Bool, true, false, List, [], ◌∷◌, ◌++◌, Option, Some, None, Result, refl, sym, ap, subst, ◌∙◌, append_assoc, arith, inl, inr}
use Rattle.std.specs.Prelude.{◌-◌, ◌<◌, nat_lt, min, is_some, if◌then◌else◌}
use Rattle.std.proofs.lemmas.Bool.{cases_Bool, cases_lt, lt-ltb, ltb-true}
use Rattle.std.proofs.lemmas.List.{append-nil, map-append}
use Rattle.std.proofs.lemmas.List.Sums.{sum_by_push}
use Rattle.m2v_vbv.specs.Annex.{Start, Removal, removed}
use Rattle.m2v_vbv.proofs.Sums.{opening_is}
use Rattle.m2v_vbv.specs.declared.fault.AccountFault.{AccountFault}
use Rattle.m2v_vbv.specs.declared.fault.AccountFault.TheVariants.{Under}
use Rattle.m2v_model.specs.declared.state.Sequence.{Sequence}
use Rattle.m2v_model.specs.Lawful.{rate_of, buffer_of}
use Rattle.m2v_model.specs.Buffering.{unsafe_from, amounts_from, greatest}
use Rattle.m2v_check.specs.declared.amounts.Amount.{Amount}
use Rattle.m2v_check.specs.declared.buffer.Buffer.{Buffer}
use Rattle.m2v_check.specs.declared.buffer.BufferFigures.{BufferFigures}
use Rattle.m2v_check.specs.declared.coded.CodedPicture.{CodedPicture}
use Rattle.m2v_check.specs.declared.course.Next.{Next}
use Rattle.m2v_check.specs.declared.course.Course.{Course}
use Rattle.m2v_check.specs.declared.course.Full.{Full}
use Rattle.m2v_check.specs.Breaking.{first_some}
use Rattle.m2v_check.specs.Holding.{is_whole, course_after, course_under, removed_by, amount_by, delays_with, full_with, over_by, is_over, with_more}
use Rattle.m2v_check.specs.Accounts.{removal_of, removals_of, fault_of, most_of, others_of, Ran}
use Rattle.m2v_check.specs.declared.amounts.Amounts.{Amounts}
use Rattle.m2v_check.specs.Judging.{most_noted, most_in, finished, last_of, buffer_ended, next_of, opening_of, times_of, GoesOn, Begins, HasMore}
use Rattle.m2v_check.specs.Holding.{most_with}
use Rattle.m2v_check.proofs.Accounting.{runs_on}

-- the bits of pictures
abbrev pub bits_of : List Next → ℕ
bits_of ts = removed (removals_of ts)

pub bits_push : (ts : List Next) (n : Next) → bits_of (ts ++ n ∷ []) ≡ bits_of ts + n.bits
bits_push ts n = ap removed (map-append removal_of ts (n ∷ [])) ∙ sum_by_push (λ (x : Removal). x.bits) (removals_of ts) (removal_of n)

-- one of these pictures isn't whole: how the account fails is known, whatever follows
abbrev pub Stopped : Start → List Next → Course → Type 0
Stopped start us c = (t : ℕ) → bits_of us ≤ t → (more : List Next) → fault_of start t (us ++ more) ≡ first_some (over_by c.full t) c.under

-- these pictures were removed, or one of them isn't whole
abbrev pub RunBy : Start → List Next → Buffer → Option AccountFault → Type 0
RunBy start us b None = Ran start us b.course × (is_over b.course ≡ false → (t : ℕ) → b.course.total ≤ t → most_in t b ≡ most_of start t us)
RunBy start us b (Some f) = Stopped start us b.course

pub record HasRun (start : Start) (us : List Next) (b : Buffer) : Type 0 where
  pub run : RunBy start us b b.course.under
  pub total : b.course.total ≡ bits_of us + b.course.next.bits

ran_same : (start : Start) (ts : List Next) (c : Course) (next : Next) (total : ℕ) → Ran start ts c → Ran start ts (record c { next = next; total = total })
ran_same start ts c next total r = record {
  account = r.account;
  exactly = r.exactly;
  pictures = r.pictures;
  removed_is = r.removed_is;
  size = r.size;
  full = r.full;
  fault = r.fault;
  delays = r.delays;
}

-- ---- what is over stays so

not_less : (a b : ℕ) → b ≤ a → nat_lt a b ≡ false
not_less a b l = elim (cases_Bool (nat_lt a b)) [
  | inl on ↦ let m = ltb-true a b on in absurd (omega arith)
  | inr off ↦ off
]

over_less : (f : Option Full) (t u : ℕ) → t ≤ u → is_some (over_by f u) ≡ false → is_some (over_by f t) ≡ false
over_less None t u le e = refl
over_less (Some f) t u le e = elim (cases_lt (1800 * f.account.start.buffer_bits) (min f.account.held (1800 * (t - f.removed)))) [
  | inl l ↦
      let more : 1800 * f.account.start.buffer_bits < min f.account.held (1800 * (u - f.removed)) = omega (arith, l, le) in
      let on : is_some (over_by (Some f) u) ≡ true = rw (lt-ltb _ _ more) refl in
      absurd (let d : true ≡ false = sym on ∙ e in cc)
  | inr m ↦ rw (not_less _ _ m) refl
]

over_stays : (f g : Option Full) (t u : ℕ) → t ≤ u → is_some (over_by (first_some f g) u) ≡ false → is_some (over_by f t) ≡ false
over_stays None g t u le e = refl
over_stays (Some f) g t u le e = over_less (Some f) t u le e

-- ---- one picture more

more_stops : (start : Start) (us : List Next) (n : Next) (c : Course) → Stopped start us c → Stopped start (us ++ n ∷ []) c
more_stops start us n c s t le more =
    let e = append_assoc us (n ∷ []) more in
    ap (fault_of start t) e ∙ s t (omega (arith, bits_push us n, le)) (n ∷ more)

-- the account behind a removal, by whether the picture is whole, and what was held then
abbrev gone_by : Bool → Course → Course
gone_by w c = if w then course_after c else course_under c

abbrev noted_by : Bool → Course → Option Amount
noted_by w c = if w then Some (record { held = c.account.held; removed = c.removed }) else None

-- none wasn't whole before
whole_by : (start : Start) (us : List Next) (b d : Buffer) (next : Next) (total : ℕ) (w : Bool) → is_whole b.course ≡ w → b.course.under ≡ None → RunBy start us b None → b.course.total ≡ bits_of us + b.course.next.bits
    → b.course.total ≤ total → d.course ≡ record (gone_by w b.course) { next = next; total = total } → (is_over d.course ≡ false → (t : ℕ) → d.course.total ≤ t → most_in t d ≡ most_noted t (most_in t b) (noted_by w b.course)) → RunBy start (us ++ b.course.next ∷ []) d d.course.under
whole_by start us b d next total true e none r bits more is most =
    let c = b.course in
    let ts = us ++ c.next ∷ [] in
    let law = runs_on start us c r.0 in
    let same : d.course.under ≡ None = ap (λ (x : Course). x.under) is ∙ none in
    let whole : d.course.total ≡ total = ap (λ (x : Course). x.total) is in
    subst (RunBy start ts d) (sym same) (
      subst (Ran start ts) (sym is) (ran_same start ts (course_after c) next total (law.whole e)),
      λ bears t le.
          let enough : c.total ≤ t = omega (arith, whole, more, le) in
          let full : is_some (over_by (full_with c) total) ≡ false = sym (ap is_over is) ∙ bears in
          let before = over_stays c.full _ c.total total more full in
          most bears t le ∙ sym (law.most t (omega (arith, enough, bits)) (most_in t b) (r.1 before t enough)),
    )
whole_by start us b d next total false e none r bits more is most =
    let c = b.course in
    let ts = us ++ c.next ∷ [] in
    let law = runs_on start us c r.0 in
    let under : d.course.under ≡ (course_under c).under = ap (λ (x : Course). x.under) is in
    let stopped : Stopped start ts (course_under c) = λ t le more. law.under e t (omega (arith, bits_push us c.next, le)) more in
    subst (RunBy start ts d) (sym under) (subst (Stopped start ts) (sym is) stopped)

run_on : (start : Start) (us : List Next) (b d : Buffer) (next : Next) (total : ℕ) (o : Option AccountFault) → b.course.under ≡ o → RunBy start us b o → b.course.total ≡ bits_of us + b.course.next.bits
    → b.course.total ≤ total → d.course ≡ record (removed_by o b.course) { next = next; total = total } → (is_over d.course ≡ false → (t : ℕ) → d.course.total ≤ t → most_in t d ≡ most_noted t (most_in t b) (amount_by o b.course)) → RunBy start (us ++ b.course.next ∷ []) d d.course.under
run_on start us b d next total (Some f) e r bits more is most =
    let c = b.course in
    let ts = us ++ c.next ∷ [] in
    let under : d.course.under ≡ Some f = ap (λ (x : Course). x.under) is ∙ e in
    subst (RunBy start ts d) (sym under) (subst (Stopped start ts) (sym is) (more_stops start us c.next c r))
run_on start us b d next total None e r bits more is most = whole_by start us b d next total (is_whole b.course) refl e r bits more is most

-- a picture came
pub runs_goes : (start : Start) (us : List Next) (b d : Buffer) (p : CodedPicture) (bits code : ℕ) → HasRun start us b → GoesOn b p bits code d → HasRun start (us ++ b.course.next ∷ []) d
runs_goes start us b d p bits code h g =
    let next = next_of b.times p bits code in
    let is_total : d.course.total ≡ b.course.total + bits = ap (λ (x : Course). x.total) g.course in
    let is_next : d.course.next.bits ≡ bits = ap (λ (x : Course). x.next.bits) g.course in
    let push = bits_push us b.course.next in
    let total = h.total in
    record {
      run = run_on start us b d next (b.course.total + bits) b.course.under refl h.run h.total (omega arith) g.course g.most;
      total = omega (arith, is_total, is_next, push, total);
    }

-- more bits of the last picture came
run_more : (start : Start) (us : List Next) (b d : Buffer) (bits : ℕ) (o : Option AccountFault) → RunBy start us b o → d.course ≡ with_more b.course bits → d.amounts ≡ b.amounts → RunBy start us d o
run_more start us b d bits (Some f) r is same = subst (Stopped start us) (sym is) r
run_more start us b d bits None r is same =
    let c = b.course in
    let whole : d.course.total ≡ c.total + bits = ap (λ (x : Course). x.total) is in (
      subst (Ran start us) (sym is) (ran_same start us c (record c.next { bits = c.next.bits + bits }) (c.total + bits) r.0),
      λ bears t le.
          let before = over_less c.full c.total (c.total + bits) (omega arith) (sym (ap is_over is) ∙ bears) in
          ap (λ (a : Amounts). most_with t a.most a.waiting.items) same ∙ r.1 before t (omega (arith, whole, le)),
    )

pub runs_more : (start : Start) (us : List Next) (b d : Buffer) (bits : ℕ) → HasRun start us b → HasMore b bits d → HasRun start us d
runs_more start us b d bits h m =
    let is_total : d.course.total ≡ b.course.total + bits = ap (λ (x : Course). x.total) m.course in
    let is_next : d.course.next.bits ≡ b.course.next.bits + bits = ap (λ (x : Course). x.next.bits) m.course in
    let is_under : d.course.under ≡ b.course.under = ap (λ (x : Course). x.under) m.course in
    let total = h.total in
    record {
      run = subst (RunBy start us d) (sym is_under) (run_more start us b d bits b.course.under h.run m.course m.amounts);
      total = omega (arith, is_total, is_next, total);
    }

-- the first picture came
pub runs_begins : (first : Sequence) (p : CodedPicture) (bits code : ℕ) (b : Buffer) → Begins first p bits code b
    → HasRun (record { k = rate_of first; buffer_bits = 16384 * buffer_of first; s = code; delay = p.note.info.vbv_delay }) [] b
unfolding unsafe_from amounts_from greatest
runs_begins first p bits code b g =
    let start : Start = record { k = rate_of first; buffer_bits = 16384 * buffer_of first; s = code; delay = p.note.info.vbv_delay } in
    let under : b.course.under ≡ None = ap (λ (x : Course). x.under) g.course in
    let opened = opening_of (record { rate = rate_of first; buffer = buffer_of first }) (times_of first) p bits code in
    let total : b.course.total ≡ bits = ap (λ (x : Course). x.total) g.course in
    let next : b.course.next.bits ≡ bits = ap (λ (x : Course). x.next.bits) g.course in
    let ran : Ran start [] opened = record {
      account = opening_is start;
      exactly = omega arith;
      pictures = refl;
      removed_is = refl;
      size = refl;
      full = tt;
      fault = λ t le. refl;
      delays = refl;
    } in
    record {
      run = subst (RunBy start [] b) (sym under) (subst (Ran start []) (sym g.course) ran, λ bears t le. g.most t);
      total = omega (arith, total, next);
    }

-- ---- the end

-- what is said of all pictures of a stream of so many bits
abbrev figures_by : Option AccountFault → ℕ → ℕ → Result BufferFigures AccountFault
figures_by fault most delays = finished fault None most delays

abbrev pub said_of_all : Start → ℕ → List Next → Result BufferFigures AccountFault
said_of_all start t ts = figures_by (fault_of start t ts) (most_of start t ts) (others_of start ts)

failed_by : (over : Option AccountFault) (f : AccountFault) (m n k l : ℕ) → finished over (Some f) m k ≡ figures_by (first_some over (Some f)) n l
failed_by None f m n k l = refl
failed_by (Some g) f m n k l = refl

abbrev ended_from : ℕ → Course → Option Amount → ℕ → Result BufferFigures AccountFault
ended_from t c a most = finished (over_by c.full t) c.under (most_noted t most a) c.delays

end_whole : (start : Start) (us : List Next) (b : Buffer) (w : Bool) → is_whole b.course ≡ w → b.course.under ≡ None → RunBy start us b None → b.course.total ≡ bits_of us + b.course.next.bits
    → ended_from b.course.total (gone_by w b.course) (noted_by w b.course) (most_in b.course.total b) ≡ said_of_all start b.course.total (us ++ b.course.next ∷ [])
end_whole start us b true e none r bits =
    let c = b.course in
    let ts = us ++ c.next ∷ [] in
    let law = runs_on start us c r.0 in
    let ran = law.whole e in
    let all : bits_of ts ≤ c.total = omega (arith, bits_push us c.next, bits) in
    let fault = sym (ran.fault c.total all) in
    let most : is_some (over_by (full_with c) c.total) ≡ false → most_noted c.total (most_in c.total b) (noted_by true c) ≡ most_of start c.total ts = λ bears. sym (law.most c.total (omega (arith, bits)) (most_in c.total b) (r.1 (over_stays c.full _ c.total c.total (omega arith) bears) c.total (omega arith))) in
    by_over (over_by (full_with c) c.total) (fault_of start c.total ts) c.under (most_noted c.total (most_in c.total b) (noted_by true c)) (most_of start c.total ts)
    (delays_with c) (others_of start ts) fault none most ran.delays
  where
    by_over : (o p u : Option AccountFault) (m n k l : ℕ) → o ≡ p → u ≡ None → (is_some o ≡ false → m ≡ n) → k ≡ l → finished o u m k ≡ figures_by p n l
    by_over (Some f) p u m n k l e un same ek = ap (λ (x : Option AccountFault). figures_by x n l) e
    by_over None p u m n k l e un same ek = let held = same refl in λ i. finished (e i) (un i) (held i) (ek i)
end_whole start us b false e none r bits =
    let c = b.course in
    let ts = us ++ c.next ∷ [] in
    let law = runs_on start us c r.0 in
    let f = Under c.account.removals c.account.held (1800 * c.next.bits) in
    let fault : fault_of start c.total ts ≡ first_some (over_by c.full c.total) (Some f) =
    ap (fault_of start c.total) (sym (append-nil ts)) ∙ law.under e c.total (omega (arith, bits)) [] in
    failed_by (over_by c.full c.total) f (most_in c.total b) (most_of start c.total ts) c.delays (others_of start ts)
    ∙ ap (λ (x : Option AccountFault). figures_by x (most_of start c.total ts) (others_of start ts)) (sym fault)

end_by : (start : Start) (us : List Next) (b : Buffer) (o : Option AccountFault) → b.course.under ≡ o → RunBy start us b o → b.course.total ≡ bits_of us + b.course.next.bits
    → ended_from b.course.total (removed_by o b.course) (amount_by o b.course) (most_in b.course.total b) ≡ said_of_all start b.course.total (us ++ b.course.next ∷ [])
end_by start us b (Some f) e r bits =
    let c = b.course in
    let ts = us ++ c.next ∷ [] in
    let more = c.next ∷ [] in
    let fault : fault_of start c.total ts ≡ first_some (over_by c.full c.total) (Some f) = r c.total (omega (arith, bits)) more ∙ ap (first_some (over_by c.full c.total)) e in
    ap (λ (x : Option AccountFault). finished (over_by c.full c.total) x (most_in c.total b) c.delays) e
    ∙ failed_by (over_by c.full c.total) f (most_in c.total b) (most_of start c.total ts) c.delays (others_of start ts)
    ∙ ap (λ (x : Option AccountFault). figures_by x (most_of start c.total ts) (others_of start ts)) (sym fault)
end_by start us b None e r bits = end_whole start us b (is_whole b.course) refl e r bits

total_kept : (o : Option AccountFault) (c : Course) → (removed_by o c).total ≡ c.total
total_kept (Some f) c = refl
total_kept None c = elim (cases_Bool (is_whole c)) [
  | inl on ↦ rw on refl
  | inr off ↦ rw off refl
]

-- what the account says at the end is what is said of all pictures
pub ended_is : (start : Start) (us : List Next) (b : Buffer) → HasRun start us b → buffer_ended b ≡ said_of_all start b.course.total (us ++ b.course.next ∷ [])
ended_is start us b h =
    ap (λ (t : ℕ). ended_from t (last_of b.course) (amount_by b.course.under b.course) (most_in t b)) (total_kept b.course.under b.course)
    ∙ end_by start us b b.course.under refl h.run h.total
