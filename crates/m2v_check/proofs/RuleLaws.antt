-- The rules as they run find what is broken first.
use Rattle.std.proofs.Common.{◌≡◌, ℕ, zero, suc, ◌+◌, ◌<◌, Bool, true, false, List, [], ◌∷◌, ◌++◌, Option, Some, None, refl, sym, ap, subst, ◌∙◌, append_assoc, arith, inl, inr}
use Rattle.std.specs.Prelude.{if◌then◌else◌, nat_eq, ◌||◌, not}
use Rattle.std.specs.List.{flat_map}
use Rattle.std.proofs.lemmas.Bool.{cases_Bool, eqb-true}
use Rattle.std.proofs.lemmas.List.{append-nil}
use Rattle.m2v_model.specs.declared.state.Sequence.{Sequence}
use Rattle.m2v_model.specs.States.{is_b}
use Rattle.m2v_model.specs.Pictures.{Picture, Pictures, Events, sequence_header, group_header, coded_picture, pictures_in}
use Rattle.m2v_model.specs.PieceNotes.{note_of}
use Rattle.m2v_model.specs.Lawful.{Numbered, numbered, all_numbered, is_variable, frames_of_group, sequences_in, sequence_breaches, picture_breaches, breaches, horizontal_rule, vertical_rule, intra_rule, crowd_rule, repeat_rule, progressive_rule, precision_rule}
use Rattle.m2v_check.specs.declared.places.Places.{Places}
use Rattle.m2v_check.specs.declared.rules.Rules.{Rules}
use Rattle.m2v_check.specs.Breaking.{first_some, found}
use Rattle.m2v_check.specs.Running.{all_broken, no_places, with_field, with_frame, begun_with, lesser, no_rules, low_delay_with, with_sequence, with_group, coded_next, constant_with, unplaced_of, placed_with, with_picture}
use Rattle.m2v_check.specs.Laws.{with_coded, rules_after, Alternates, first_low_delay, IsFound}
use Rattle.m2v_check.proofs.Firsts.{found_more}
use Rattle.m2v_check.proofs.Merging.{header_more}
use Rattle.m2v_check.proofs.Placing.{Found, ends, unplaced, added, step, steps, Judged, judged_none, group_ended, with_first, ended}
use Rattle.m2v_check.proofs.Framing.{with_shown, with_anchor}

-- ---- pictures one after another

-- the group of a picture, behind one of a group
abbrev pub IsGroupBehind : Bool → ℕ → ℕ → Type 0
IsGroupBehind true g h = g < h
IsGroupBehind false g h = h ≡ g

-- pictures behind one of a group, with the number of the frame that comes next, and whether a first field waits
abbrev pub Follows : ℕ → ℕ → Bool → List Numbered → Type 0
Follows g f waits [] = Unit {0}
Follows g f waits (n ∷ ns) =
    (n.frame ≡ f) × IsGroupBehind n.first_in_group g n.group × (n.picture.ends_frame ≡ ends n) × (n.picture.ends_frame ≡ false → waits ≡ false)
    × Follows n.group (if n.picture.ends_frame then f + 1 else f) (not n.picture.ends_frame) ns

begun_judged : (low c : Bool) (done : List Numbered) (g h f : ℕ) (waits : Bool) (o : Places) (b : Bool) → Judged low c done g f waits o → IsGroupBehind b g h → Judged low c done h f waits (begun_with b o)
begun_judged low c done g h f waits o true j e = group_ended low c done g h f waits o j e
begun_judged low c done g h f waits o false j e = subst (λ (k : ℕ). Judged low c done k f waits o) (sym e) j

framed_judged : (low c : Bool) (done : List Numbered) (n : Numbered) (f : ℕ) (waits : Bool) (o : Places) → Judged low c done n.group f waits o → n.frame ≡ f → n.picture.ends_frame ≡ true
    → Judged low c (done ++ n ∷ []) n.group (f + 1) false (with_frame o (unplaced c n) (is_b n.picture.info.kind))
framed_judged low c done n f waits o j ef on = elim (cases_Bool (low || is_b n.picture.info.kind)) [
  | inl e ↦ with_shown low c done n n.group f waits o j refl ef on e
  | inr e ↦ with_anchor low c done n n.group f waits o j refl ef on e
]

added_judged : (low c : Bool) (done : List Numbered) (n : Numbered) (f : ℕ) (waits : Bool) (o : Places) (e : Bool) → Judged low c done n.group f waits o → n.frame ≡ f → n.picture.ends_frame ≡ e → ends n ≡ e
    → (e ≡ false → waits ≡ false) → Judged low c (done ++ n ∷ []) n.group (if e then f + 1 else f) (not e) (added c o n)
added_judged low c done n f waits o true j ef is own alone =
    subst (λ (b : Bool). Judged low c (done ++ n ∷ []) n.group (f + 1) false (if b then with_frame o (unplaced c n) (is_b n.picture.info.kind) else with_field o (unplaced c n))) (sym own)
    (framed_judged low c done n f waits o j ef is)
added_judged low c done n f waits o false j ef is own alone =
    subst (λ (b : Bool). Judged low c (done ++ n ∷ []) n.group f true (if b then with_frame o (unplaced c n) (is_b n.picture.info.kind) else with_field o (unplaced c n))) (sym own)
    (with_first low c done n n.group f waits o j refl ef is (alone refl))

-- all of them
pub record JudgedAll (low c : Bool) (done : List Numbered) (o : Places) : Type 0 where
  pub group : ℕ
  pub frame : ℕ
  pub waits : Bool
  pub judged : Judged low c done group frame waits o

judged_on : (low c : Bool) (ns done : List Numbered) (g f : ℕ) (waits : Bool) (o : Places) → Judged low c done g f waits o → Follows g f waits ns → JudgedAll low c (done ++ ns) (steps c o ns)
judged_on low c [] done g f waits o j h =
    subst (λ (l : List Numbered). JudgedAll low c l o) (sym (append-nil done)) (record { group = g; frame = f; waits = waits; judged = j })
judged_on low c (n ∷ ns) done g f waits o j h =
    let b = begun_judged low c done g n.group f waits o n.first_in_group j h.1 in
    let next = added_judged low c done n f waits (begun_with n.first_in_group o) n.picture.ends_frame b h.0 refl (sym h.2) h.3 in
    subst (λ (l : List Numbered). JudgedAll low c l (steps c (step c o n) ns)) (append_assoc done (n ∷ []) ns)
    (judged_on low c ns (done ++ n ∷ []) n.group _ (not n.picture.ends_frame) (step c o n) next h.4)

none_left : (g : ℕ) → frames_of_group g [] ≡ []
unfolding frames_of_group
none_left g = refl

pub all_judged : (low c : Bool) (ns : List Numbered) → Follows 0 0 false ns → found (flat_map (picture_breaches low c ns) ns) ≡ all_broken (steps c (record no_places { low_delay = low }) ns)
all_judged low c ns h =
    let j = judged_on low c ns [] 0 0 false (record no_places { low_delay = low }) (judged_none low c) h in
    ap (λ (l : List Numbered). found (flat_map (picture_breaches low c l) ns)) (sym (append-nil ns))
    ∙ ended low c ns j.group j.frame j.waits (steps c (record no_places { low_delay = low }) ns) j.judged [] (λ k lt. none_left k) (none_left j.group)

-- ---- events

alternates_alone : (waits : Bool) (ps : Pictures) → Alternates waits ps → Alternates false ps
alternates_alone waits [] a = tt
alternates_alone waits (p ∷ ps) a = (a.0, λ e. refl, a.2)

group_more : (b : Bool) (g h : ℕ) → IsGroupBehind b g h → g < h + 1
group_more true g h e = omega arith
group_more false g h e = omega arith

follows_some : (es : Events) (s : Sequence) (g0 g : ℕ) (b : Bool) (number f : ℕ) (waits : Bool) → IsGroupBehind b g0 g → Alternates waits (pictures_in es) → Follows g0 f waits (numbered (Some s) g b number f es)
unfolding numbered
follows_some [] s g0 g b number f waits e a = tt
follows_some (sequence_header t ∷ es) s g0 g b number f waits e a = follows_some es t g0 g b number f waits e a
follows_some (group_header x ∷ es) s g0 g b number f waits e a = follows_some es s g0 (g + 1) true number f waits (group_more b g0 g e) a
follows_some (coded_picture p ∷ es) s g0 g b number f waits e a =
    (refl, e, a.0, a.1, follows_some es s g g false (number + 1) (if p.ends_frame then f + 1 else f) (not p.ends_frame) refl a.2)

follows_none : (es : Events) (g0 g : ℕ) (b : Bool) (number f : ℕ) → IsGroupBehind b g0 g → Alternates false (pictures_in es) → Follows g0 f false (numbered None g b number f es)
unfolding numbered
follows_none [] g0 g b number f e a = tt
follows_none (sequence_header t ∷ es) g0 g b number f e a = follows_some es t g0 g b number f false e a
follows_none (group_header x ∷ es) g0 g b number f e a = follows_none es g0 (g + 1) true number f (group_more b g0 g e) a
follows_none (coded_picture p ∷ es) g0 g b number f e a = follows_none es g0 g b number f e (alternates_alone (not p.ends_frame) (pictures_in es) a.2)

-- ---- the rules as they run

abbrev picture_at : Rules → Sequence → Picture → ℕ → ℕ → Numbered
picture_at r s p g f = record { number = r.pictures; sequence = s; group = g; first_in_group = r.first_in_group; frame = f; picture = p }

place_one : (c : Bool) (r : Rules) (s : Sequence) (p : Picture) (g f : ℕ) → constant_with r (coded_next r s (note_of 0 p)) ≡ c → (with_picture r (coded_next r s (note_of 0 p))).places ≡ step c r.places (picture_at r s p g f)
unfolding horizontal_rule vertical_rule intra_rule crowd_rule repeat_rule progressive_rule precision_rule
place_one c r s p g f e = ap (λ (k : Bool). placed_with (note_of 0 p) (begun_with r.first_in_group r.places) (unplaced_of k (coded_next r s (note_of 0 p)))) e

-- whether the rate is constant, by the first picture that comes or came
pub record IsRate (c : Bool) (r : Rules) (ns : List Numbered) : Type 0 where
  pub first : r.pictures ≡ 0 → not (is_variable ns) ≡ c
  pub later : 0 < r.pictures → r.constant ≡ c

some_is : (n : ℕ) → nat_eq n 0 ≡ false → 0 < n
some_is zero e = let t : true ≡ false = e in absurd cc
some_is (suc n) e = omega arith

rate_by : (c : Bool) (r : Rules) (s : Sequence) (p : Picture) (g f : ℕ) (ns : List Numbered) (b : Bool) → nat_eq r.pictures 0 ≡ b → IsRate c r (picture_at r s p g f ∷ ns) → constant_with r (coded_next r s (note_of 0 p)) ≡ c
rate_by c r s p g f ns true e h = rw e (h.first (eqb-true r.pictures 0 e))
rate_by c r s p g f ns false e h = rw e (h.later (some_is r.pictures e))

low_same : (o : Places) (first : Option Sequence) (x s : Sequence) → first ≡ Some x → record o { low_delay = low_delay_with first s o.low_delay } ≡ o
low_same o first x s e = ap (λ (y : Option Sequence). record o { low_delay = low_delay_with y s o.low_delay }) e

abbrev Runs : Bool → Events → Type 0
Runs c es = (r : Rules) (x : Sequence) (g f : ℕ) → r.first ≡ Some x → IsRate c r (numbered r.sequence g r.first_in_group r.pictures f es)
    → (rules_after r es).places ≡ steps c r.places (numbered r.sequence g r.first_in_group r.pictures f es)

run_picture : (c : Bool) (es : Events) (p : Picture) (r : Rules) (x : Sequence) (g f : ℕ) (sq : Option Sequence) → Runs c es → r.sequence ≡ sq → r.first ≡ Some x
    → IsRate c r (numbered sq g r.first_in_group r.pictures f (coded_picture p ∷ es))
    → (rules_after (with_coded r sq p) es).places ≡ steps c r.places (numbered sq g r.first_in_group r.pictures f (coded_picture p ∷ es))
unfolding numbered
run_picture c es p r x g f None ih is e h =
    ih r x g f e (subst (λ (q : Option Sequence). IsRate c r (numbered q g r.first_in_group r.pictures f es)) (sym is) h)
    ∙ ap (λ (q : Option Sequence). steps c r.places (numbered q g r.first_in_group r.pictures f es)) is
run_picture c es p r x g f (Some s) ih is e h =
    let q = coded_next r s (note_of 0 p) in
    let rate = rate_by c r s p g f _ _ refl h in
    let f2 = if p.ends_frame then f + 1 else f in
    ih (with_picture r q) x g f2 e (record { first = λ z. absurd (omega arith); later = λ l. rate })
    ∙ ap (λ (y : Option Sequence). steps c (with_picture r q).places (numbered y g false (r.pictures + 1) f2 es)) is
    ∙ ap (λ (o : Places). steps c o (numbered (Some s) g false (r.pictures + 1) f2 es)) (place_one c r s p g f rate)

run_places : (c : Bool) (es : Events) → Runs c es
unfolding rules_after numbered
run_places c [] r x g f e h = refl
run_places c (sequence_header s ∷ es) r x g f e h =
    run_places c es (with_sequence r s) (first_of_two r.first s) g f refl (record { first = h.first; later = h.later })
    ∙ ap (λ (o : Places). steps c o (numbered (Some s) g r.first_in_group r.pictures f es)) (low_same r.places r.first x s e)
  where
    first_of_two : Option Sequence → Sequence → Sequence
    first_of_two (Some a) b = a
    first_of_two None b = b
run_places c (group_header y ∷ es) r x g f e h = run_places c es (with_group r) x (g + 1) f e (record { first = h.first; later = h.later })
run_places c (coded_picture p ∷ es) r x g f e h = run_picture c es p r x g f r.sequence (run_places c es) refl e h

abbrev opened : Bool → Rules
opened b = record no_rules { first_in_group = b }

run_first : (c : Bool) (es : Events) (b : Bool) (g f : ℕ) → not (is_variable (numbered None g b 0 f es)) ≡ c
    → (rules_after (opened b) es).places ≡ steps c (record no_places { low_delay = first_low_delay es }) (numbered None g b 0 f es)
unfolding rules_after numbered
run_first c [] b g f e = refl
run_first c (sequence_header s ∷ es) b g f e =
    run_places c es (with_sequence (opened b) s) s g f refl (record { first = λ z. e; later = λ l. absurd (omega arith) })
run_first c (group_header y ∷ es) b g f e = run_first c es true (g + 1) f e
run_first c (coded_picture p ∷ es) b g f e = run_first c es b g f e

coded_headers : (r : Rules) (sq : Option Sequence) (p : Picture) → (with_coded r sq p).headers ≡ r.headers
coded_headers r None p = refl
coded_headers r (Some s) p = refl

run_headers : (es : Events) (r : Rules) (ss : List Sequence) → r.headers ≡ found (sequence_breaches ss) → (rules_after r es).headers ≡ found (sequence_breaches (ss ++ sequences_in es))
unfolding rules_after
run_headers [] r ss e = e ∙ ap (λ (l : List Sequence). found (sequence_breaches l)) (sym (append-nil ss))
run_headers (sequence_header s ∷ es) r ss e =
    run_headers es (with_sequence r s) (ss ++ s ∷ []) (ap (λ (h : Found). lesser h (found (sequence_breaches (s ∷ [])))) e ∙ sym (header_more ss s))
    ∙ ap (λ (l : List Sequence). found (sequence_breaches l)) (append_assoc ss (s ∷ []) (sequences_in es))
run_headers (group_header g ∷ es) r ss e = run_headers es (with_group r) ss e
run_headers (coded_picture p ∷ es) r ss e = run_headers es (with_coded r r.sequence p) ss (coded_headers r r.sequence p ∙ e)

pub is_found : (es : Events) → IsFound es
unfolding breaches
is_found es a =
    let all = all_numbered es in
    let low = first_low_delay es in
    let c = not (is_variable all) in
    let places = run_first c es false 0 0 refl in
    let follows = follows_none es 0 0 false 0 0 refl a in
    let judged = all_judged low c all follows in
    (λ i. first_some (run_headers es no_rules [] refl i) ((ap all_broken places ∙ sym judged) i))
    ∙ sym (found_more (sequence_breaches (sequences_in es)) (flat_map (picture_breaches low c all) all))
