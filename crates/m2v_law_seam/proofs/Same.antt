-- What has no fault stays as it is.
use Rattle.std.proofs.Common.{◌≡◌, ℕ, ◌≤◌, Bool, true, false, List, [], ◌∷◌, ◌++◌, length, map, Option, Some, None, ◌⊎◌, inl, inr, refl, sym, ap, subst, ◌∙◌, append_assoc, append-nil, arith}
use Rattle.std.specs.Prelude.{not, ◌||◌, is_none}
use Rattle.std.proofs.lemmas.Bool.{cases_Bool, and_from}
use Rattle.std.proofs.lemmas.List.{map-append}
use Rattle.m2v_model.specs.declared.state.Sequence.{Sequence}
use Rattle.m2v_model.specs.Units.{Units, joined, AreUnits}
use Rattle.m2v_model.proofs.CutLaws.{joined-append}
use Rattle.m2v_model.proofs.ShiftLaws.{BeginsPiece, NoEnds}
use Rattle.m2v_law_group.specs.Groups.{is_picture, has_picture, from_sequence}
use Rattle.m2v_law_group.proofs.Between.{OtherFirst}
use Rattle.m2v_law_group.proofs.Lists.{or_parts, no_ends_parts}
use Rattle.m2v_law_seam.specs.Spans.{units_of, units_in, has_group, is_entry, is_second, waits_behind, span_of, divided, Span, placed}
use Rattle.m2v_law_seam.specs.Seams.{lowered_unit, lowered, low_behind, text_behind}
use Rattle.m2v_law_seam.specs.Strands.{read_of, pictures_of, first_in, reads, is_short, keeps_rule, agrees, is_strand}
use Rattle.m2v_law_seam.specs.Faults.{strand_bytes}
use Rattle.m2v_law_seam.specs.Mending.{Mending, nothing_yet, first_kept, low_of_span, strand_with, goes_behind, put_behind, with_span, with_spans}
use Rattle.m2v_law_seam.specs.Mends.{AllShort}
use Rattle.m2v_law_seam.proofs.Chain.{agree_self}
use Rattle.m2v_law_seam.proofs.Fronts.{ReadOn, FrontReads}
use Rattle.m2v_law_seam.proofs.Boundary.{At, AtRest, at_on, boundary}
use Rattle.m2v_law_seam.proofs.Pieced.{flat, flat_append, BeginsOne, AllBegin, Full, Quiet, AllQuiet, picture_front, AllUnits, units_joined, entry_other}

-- ---- bytes that stay

low_zero : (ps : List (List ℕ)) → low_behind 0 ps ≡ 0
low_zero [] = refl
low_zero (p ∷ ps) = elim (cases_Bool (has_group (units_of p))) [ inl on ↦ rw on refl | inr off ↦ rw off refl ]

pub lowered_none : (us : Units) → lowered 0 us ≡ us
unfolding lowered_unit
lowered_none [] = refl
lowered_none (u ∷ us) = ap (λ (l : Units). u ∷ l) (lowered_none us)

behind_first : (ps : List (List ℕ)) → text_behind [] 0 ps ≡ joined (from_sequence (units_in ps))
unfolding text_behind
behind_first ps = ap joined (lowered_none (from_sequence (units_in ps)))

behind_later : (h : List ℕ) (t : Units) (ps : List (List ℕ)) → 1 ≤ length h → text_behind (joined (h ∷ t)) 0 ps ≡ joined (units_in ps)
unfolding text_behind
behind_later [] t ps le = absurd (omega arith)
behind_later (b ∷ h) t ps le = ap joined (lowered_none (units_in ps))

-- ---- one span more

-- what was kept of a stream's units: a front of them, as the opening strand
pub record Led (fs : Option Sequence) (body : Units) (m : Mending) (bu : Units) : Type 0 where
  pub h : List ℕ
  pub t : Units
  pub strand : m.strand ≡ Some (joined (h ∷ t))
  pub done : m.done ≡ []
  pub gaps : m.gaps ≡ []
  pub opening : m.opening ≡ true
  pub low : m.low ≡ 0
  pub first : m.first ≡ fs
  pub whole : body ≡ (h ∷ t) ++ bu
  pub some : 1 ≤ length h

self_agrees : (fs : Option Sequence) → agrees fs fs ≡ true
self_agrees None = refl
self_agrees (Some f) = agree_self f

self_kept : (fs : Option Sequence) → first_kept fs fs ≡ fs
self_kept None = refl
self_kept (Some f) = refl

pub span_behind : (m : Mending) (s : Span) → goes_behind m s ≡ true → with_span m s ≡ put_behind m s
unfolding with_span
span_behind m s h = rw h refl

goes : (m : Mending) (s : Span) (r : List ℕ) (us : Units) (fs : Option Sequence) → m.strand ≡ Some r → m.opening ≡ true → strand_with m s ≡ joined us → agrees m.first fs ≡ true → is_short s ≡ true → FrontReads us fs → goes_behind m s ≡ true
goes m s r us fs strand opening bytes agree short f =
    let first : first_in (read_of (strand_with m s)) ≡ fs = ap (λ (l : List ℕ). first_in (read_of l)) bytes ∙ f.first_is in
    and_from (not (is_none m.strand)) _ (ap (λ (o : Option (List ℕ)). not (is_none o)) strand)
    (and_from (is_short s) (is_strand m.opening m.first (strand_with m s)) short
    (and_from (reads (strand_with m s)) _ (ap reads bytes ∙ f.read)
    (and_from (agrees m.first (first_in (read_of (strand_with m s)))) _ (ap (agrees m.first) first ∙ agree) (ap (λ (b : Bool). b || keeps_rule (pictures_of (read_of (strand_with m s)))) opening))))

led_by : (m : Mending) (s : Span) (r : List ℕ) (h : List ℕ) (t bu body : Units) (fs : Option Sequence) → m.strand ≡ Some r → m.opening ≡ true → m.done ≡ [] → m.gaps ≡ [] → low_of_span m s ≡ 0 → strand_with m s ≡ joined (h ∷ t) → agrees m.first fs ≡ true → first_kept m.first fs ≡ fs
    → is_short s ≡ true → FrontReads (h ∷ t) fs → body ≡ (h ∷ t) ++ bu → 1 ≤ length h → Led fs body (with_span m s) bu
led_by m s r h t bu body fs strand opening done gaps low bytes agree kept short f whole some =
    let first : first_in (read_of (strand_with m s)) ≡ fs = ap (λ (l : List ℕ). first_in (read_of l)) bytes ∙ f.first_is in
    subst (λ (z : Mending). Led fs body z bu) (sym (span_behind m s (goes m s r (h ∷ t) fs strand opening bytes agree short f))) (record {
      h = h;
      t = t;
      strand = ap Some bytes;
      done = done;
      gaps = gaps;
      opening = opening;
      low = low;
      first = ap (first_kept m.first) first ∙ kept;
      whole = whole;
      some = some;
    })

-- each front of the stream's units, up to where a piece begins and no second field is due, reads
abbrev pub Good : Option Sequence → Units → Type 0
Good fs body = (h : List ℕ) (t bu : Units) → body ≡ (h ∷ t) ++ bu → BeginsPiece bu → AtRest body bu → FrontReads (h ∷ t) fs

-- any span of the units that are left is kept, if others follow it so
abbrev pub Ready : Option Sequence → Units → Mending → Units → Type 0
Ready fs body m left =
    (us bu : Units) (s : Span) → left ≡ us ++ bu → BeginsPiece bu → AtRest body bu → (bu ≡ []) ⊎ (has_picture us ≡ true) → units_in s.pieces ≡ us → is_short s ≡ true
    → Led fs body (with_span m s) bu

pub ready_later : (fs : Option Sequence) (body : Units) (m : Mending) (left : Units) → Good fs body → Led fs body m left → Ready fs body m left
ready_later fs body m left good d us bu s e begins other has units short =
    let whole : body ≡ (d.h ∷ (d.t ++ us)) ++ bu = d.whole ∙ ap (λ (l : Units). (d.h ∷ d.t) ++ l) e ∙ sym (append_assoc (d.h ∷ d.t) us bu) in
    let low : low_of_span m s ≡ 0 = ap (λ (n : ℕ). low_behind n s.pieces) d.low ∙ low_zero s.pieces in
    let bytes : strand_with m s ≡ joined (d.h ∷ (d.t ++ us)) =
    ap (λ (o : Option (List ℕ)). strand_bytes o ++ text_behind (strand_bytes o) (low_of_span m s) s.pieces) d.strand
    ∙ ap (λ (n : ℕ). joined (d.h ∷ d.t) ++ text_behind (joined (d.h ∷ d.t)) n s.pieces) low
    ∙ ap (λ (l : List ℕ). joined (d.h ∷ d.t) ++ l) (behind_later d.h d.t s.pieces d.some ∙ ap joined units)
    ∙ sym (joined-append (d.h ∷ d.t) us) in
    led_by m s (joined (d.h ∷ d.t)) d.h (d.t ++ us) bu body fs d.strand d.opening d.done d.gaps low bytes (ap (λ (o : Option Sequence). agrees o fs) d.first ∙ self_agrees fs) (ap (λ (o : Option Sequence). first_kept o fs) d.first ∙ self_kept fs)
    short (good d.h (d.t ++ us) bu whole begins other) whole d.some

-- ---- the first span

-- units with a picture reach past others that have none
pub record Past (pre us bu body : Units) : Type 0 where
  pub t : Units
  pub mine : us ≡ pre ++ t
  pub others : body ≡ t ++ bu

pub past : (pre us bu body : Units) → pre ++ body ≡ us ++ bu → has_picture pre ≡ false → has_picture us ≡ true → Past pre us bu body
unfolding has_picture
past [] us bu body e off on = record { t = us; mine = refl; others = e }
past (p ∷ pre) [] bu body e off on = absurd cc
past (p ∷ pre) (u ∷ us) bu body e off on =
    let one : p ≡ u = cc in
    let rest : pre ++ body ≡ us ++ bu = cc in
    let parts = or_parts (is_picture p) (has_picture pre) off in
    let own : is_picture u ≡ false = ap is_picture (sym one) ∙ parts.0 in
    let i = past pre us bu body rest parts.1 (rw own at on) in
    record { t = i.t; mine = ap (λ (v : List ℕ). v ∷ us) (sym one) ∙ ap (λ (l : Units). p ∷ l) i.mine; others = i.others }

-- the units before the first sequence header go
pub ready_first : (fs : Option Sequence) (pre : Units) (h : List ℕ) (pm : Units) → Good fs (h ∷ pm) → has_picture pre ≡ false → is_picture h ≡ false → ((w : Units) → from_sequence (pre ++ h ∷ w) ≡ h ∷ w) → 1 ≤ length h → Ready fs (h ∷ pm) nothing_yet (pre ++ h ∷ pm)
ready_first fs pre h pm good silent plain again some us bu s e begins other has units short =
    let p = reaches has in
    let low : low_of_span nothing_yet s ≡ 0 = low_zero s.pieces in
    let text : text_behind [] (low_of_span nothing_yet s) s.pieces ≡ joined (from_sequence us) = ap (λ (n : ℕ). text_behind [] n s.pieces) low ∙ behind_first s.pieces ∙ ap (λ (l : Units). joined (from_sequence l)) units in
    led_first p.0 p.1 p.2 low text
  where
    reaches : (bu ≡ []) ⊎ (has_picture us ≡ true) → (t : Units) × (us ≡ pre ++ t) × (h ∷ pm ≡ t ++ bu)
    reaches (inl none) = (h ∷ pm, sym (append-nil us) ∙ ap (λ (l : Units). us ++ l) (sym none) ∙ sym e, sym (append-nil (h ∷ pm)) ∙ ap (λ (l : Units). (h ∷ pm) ++ l) (sym none))
    reaches (inr on) = let i = past pre us bu (h ∷ pm) e silent on in (i.t, i.mine, i.others)

    never : (bu ≡ []) ⊎ (has_picture us ≡ true) → us ≡ pre ++ [] → h ∷ pm ≡ [] ++ bu → ⊥
    never (inl none) mine others = let wrong : h ∷ pm ≡ [] = others ∙ none in absurd cc
    never (inr on) mine others = let wrong : false ≡ true = sym silent ∙ ap has_picture (sym (append-nil pre) ∙ sym mine) ∙ on in absurd cc

    led_first : (t : Units) → us ≡ pre ++ t → h ∷ pm ≡ t ++ bu → low_of_span nothing_yet s ≡ 0 → text_behind [] (low_of_span nothing_yet s) s.pieces ≡ joined (from_sequence us) → Led fs (h ∷ pm) (with_span nothing_yet s) bu
    led_first [] mine others low text = absurd (never has mine others)
    led_first (v ∷ t) mine others low text =
        let one : h ≡ v = cc in
        let rest : pm ≡ t ++ bu = cc in
        let front : h ∷ pm ≡ (h ∷ t) ++ bu = ap (λ (l : Units). h ∷ l) rest in
        let units_are : us ≡ pre ++ h ∷ t = mine ∙ ap (λ (x : List ℕ). pre ++ x ∷ t) (sym one) in
        let bytes : strand_with nothing_yet s ≡ joined (h ∷ t) = text ∙ ap (λ (l : Units). joined (from_sequence l)) units_are ∙ ap joined (again t) in
        led_by nothing_yet s [] h t bu (h ∷ pm) fs refl refl refl refl low bytes refl refl short (good h t bu front begins other) front some

-- ---- span by span

pub divided_none : (t : ℕ → List ℕ → Bool) (w : ℕ) (mine : List (List ℕ)) → divided t w mine [] ≡ span_of mine
unfolding divided
divided_none t w mine = refl

pub divided_on : (t : ℕ → List ℕ → Bool) (w : ℕ) (mine : List (List ℕ)) (p : List ℕ) (ps : List (List ℕ)) → t w p ≡ true → divided t w mine (p ∷ ps) ≡ span_of mine ++ divided t (waits_behind w p) (p ∷ []) ps
unfolding divided
divided_on t w mine p ps e = rw e refl

pub divided_off : (t : ℕ → List ℕ → Bool) (w : ℕ) (mine : List (List ℕ)) (p : List ℕ) (ps : List (List ℕ)) → t w p ≡ false → divided t w mine (p ∷ ps) ≡ divided t (waits_behind w p) (mine ++ p ∷ []) ps
unfolding divided
divided_off t w mine p ps e = rw e refl

-- where all spans are within the limits, all units are kept
abbrev pub Walked : Option Sequence → Units → Mending → ℕ → Units → List (List (List ℕ)) → Type 0
Walked fs body m place before ss = AllShort (placed place before ss) → Led fs body (with_spans m (placed place before ss)) []

-- the last span
walk_last : (fs : Option Sequence) (body : Units) (y : Units) (ys : List Units) (m : Mending) (place : ℕ) (before : Units) → AtRest body [] → Ready fs body m (flat (y ∷ ys) ++ []) → AllUnits (y ∷ ys) → Walked fs body m place before (map joined (y ∷ ys) ∷ [])
unfolding placed with_spans
walk_last fs body y ys m place before last ready are short = ready (flat (y ∷ ys)) [] _ refl tt last (inl refl) (units_joined (y ∷ ys) are) short.0

-- a span, and others behind it
walk_next : (fs : Option Sequence) (body : Units) (y : Units) (ys : List Units) (bu : Units) (m : Mending) (place : ℕ) (before : Units) (ss : List (List (List ℕ))) → Good fs body → Ready fs body m (flat (y ∷ ys) ++ bu) → AllUnits (y ∷ ys) → BeginsPiece bu → AtRest body bu → has_picture (flat (y ∷ ys)) ≡ true
    → ((z : Mending) (at : ℕ) (past : Units) → Ready fs body z bu → Walked fs body z at past ss) → Walked fs body m place before (map joined (y ∷ ys) ∷ ss)
unfolding placed with_spans
walk_next fs body y ys bu m place before ss good ready are begins rest has later short =
    let led = ready (flat (y ∷ ys)) bu _ refl begins rest (inr has) (units_joined (y ∷ ys) are) short.0 in
    later _ _ _ (ready_later fs body _ bu good led) short.1

pub flat_one : (z : Units) (q : List Units) → flat (z ∷ []) ++ flat q ≡ flat (z ∷ q)
flat_one z q = ap (λ (l : Units). l ++ flat q) (append-nil z)

pub flat_more : (mine : List Units) (z : Units) (q : List Units) → flat (mine ++ z ∷ []) ++ flat q ≡ flat mine ++ flat (z ∷ q)
flat_more mine z q = ap (λ (l : Units). l ++ flat q) (flat_append mine (z ∷ [])) ∙ append_assoc (flat mine) (flat (z ∷ [])) (flat q) ∙ ap (λ (l : Units). flat mine ++ l) (flat_one z q)

pub units_more : (mine : List Units) (z : Units) → AllUnits mine → AreUnits z → AllUnits (mine ++ z ∷ [])
units_more [] z a b = (b, tt)
units_more (x ∷ mine) z a b = (a.0, units_more mine z a.1 b)

-- pieces that begin with one that has a picture, if others follow
abbrev pub HasIf : List Units → List Units → Type 0
HasIf mine [] = Unit {0}
HasIf mine (z ∷ q) = has_picture (flat mine) ≡ true

has_more : (mine : List Units) (z : Units) (q : List Units) → has_picture (flat mine) ≡ true → HasIf (mine ++ z ∷ []) q
has_more mine z [] h = tt
has_more mine z (y ∷ q) h = subst (λ (l : Units). has_picture l ≡ true) (sym (flat_append mine (z ∷ []))) (picture_front (flat mine) (flat (z ∷ [])) h)

pub has_first : (z : Units) (q : List Units) → Full (z ∷ q) → HasIf (z ∷ []) q
has_first z [] h = tt
has_first z (y ∷ q) h = subst (λ (l : Units). has_picture l ≡ true) (sym (append-nil z)) h.0

pub full_behind : (z : Units) (q : List Units) → Full (z ∷ q) → Full q
full_behind z [] h = tt
full_behind z (y ∷ q) h = h.1

-- a test by which a span begins at an entry, or at what is no second field
abbrev pub IsByFrames : (ℕ → List ℕ → Bool) → Type 0
IsByFrames t = (w : ℕ) (p : List ℕ) → t w p ≡ true → (is_entry p ≡ true) ⊎ (is_second w p ≡ false)

piece_begins : (z : Units) (q : List Units) (rs : Units) → BeginsOne z → BeginsPiece ((z ++ flat q) ++ rs)
piece_begins [] q rs b = absurd b
piece_begins (v ∷ vs) q rs b = b.0

own_begins : (z : Units) → BeginsOne z → BeginsPiece z
own_begins [] b = absurd b
own_begins (v ∷ vs) b = b.0

bare_begins : (z : Units) (q : List Units) → BeginsOne z → BeginsPiece (z ++ flat q)
bare_begins [] q b = absurd b
bare_begins (v ∷ vs) q b = b.0

pub pieces_begin : (q : List Units) (rs : Units) → AllBegin q → BeginsPiece rs → BeginsPiece (flat q ++ rs)
pieces_begin [] rs b more = more
pieces_begin (z ∷ q) rs b more = piece_begins z q rs b.0

entry_first : (z : Units) (q : List Units) (rs : Units) → AreUnits z → BeginsOne z → is_entry (joined z) ≡ true → OtherFirst ((z ++ flat q) ++ rs)
entry_first [] q rs are b e = absurd b
entry_first (v ∷ vs) q rs are b e = entry_other v vs are b e

-- the state in which others begin, if there are some
abbrev pub AtIf : (body rs : Units) → ReadOn (body ++ rs) → ℕ → List Units → Type 0
AtIf body rs r w [] = Unit {0}
AtIf body rs r w (z ∷ q) = At body rs r w (flat (z ∷ q))

at_if : (body rs : Units) (r : ReadOn (body ++ rs)) (w : ℕ) (z : Units) (q : List Units) → At body rs r w (flat (z ∷ q)) → AreUnits z → Quiet false z → Full (z ∷ q) → NoEnds z → BeginsOne z → AllBegin q → BeginsPiece rs → AtIf body rs r (waits_behind w (joined z)) q
at_if body rs r w z [] a are quiet full goes begins later more = tt
at_if body rs r w z (y ∷ q) a are quiet full goes begins later more = at_on body rs r w z (flat (y ∷ q)) a are quiet full.0 goes (own_begins z begins) (pieces_begin (y ∷ q) rs later more)

-- what is known of pieces behind others
pub record AllKnown (q : List Units) : Type 0 where
  pub are : AllUnits q
  pub begins : AllBegin q
  pub full : Full q
  pub quiet : AllQuiet q
  pub goes : NoEnds (flat q)

known_behind : (z : Units) (q : List Units) → AllKnown (z ∷ q) → AllKnown q
known_behind z q k = record { are = (k.are).1; begins = (k.begins).1; full = full_behind z q k.full; quiet = (k.quiet).1; goes = (no_ends_parts z (flat q) k.goes).1 }

pub walk : (t : ℕ → List ℕ → Bool) → IsByFrames t → (fs : Option Sequence) (body rs : Units) (r : ReadOn (body ++ rs)) → Good fs body → AtRest body [] → BeginsPiece rs → (q : List Units) (y : Units) (ys : List Units) (m : Mending) (place : ℕ) (before : Units) (w : ℕ) → Ready fs body m (flat (y ∷ ys) ++ flat q) → AllUnits (y ∷ ys) → AllKnown q → HasIf (y ∷ ys) q → AtIf body rs r w q
    → Walked fs body m place before (divided t w (map joined (y ∷ ys)) (map joined q))
walk t by fs body rs r good last more [] y ys m place before w ready are k has a = subst (Walked fs body m place before) (sym (divided_none t w (map joined (y ∷ ys)))) (walk_last fs body y ys m place before last ready are)
walk t by fs body rs r good last more (z ∷ q) y ys m place before w ready are k has a =
    let goes = (no_ends_parts z (flat q) k.goes).0 in
    let next = at_if body rs r w z q a (k.are).0 (k.quiet).0 k.full goes (k.begins).0 (k.begins).1 more in
    let later = known_behind z q k in
    elim (cases_Bool (t w (joined z))) [
      | inl on ↦
          let rest = boundary body rs r w z (flat q) a (k.are).0 (k.begins).0 goes (pieces_begin q rs (k.begins).1 more) (by w (joined z) on) (λ entry. entry_first z q rs (k.are).0 (k.begins).0 entry) in
          subst (Walked fs body m place before) (sym (divided_on t w (map joined (y ∷ ys)) (joined z) (map joined q) on))
          (walk_next fs body y ys (flat (z ∷ q)) m place before (divided t (waits_behind w (joined z)) (joined z ∷ []) (map joined q)) good ready are (bare_begins z q (k.begins).0) rest has
          (λ n at past c. walk t by fs body rs r good last more q z [] n at past (waits_behind w (joined z)) (subst (Ready fs body n) (sym (flat_one z q)) c) ((k.are).0, tt) later (has_first z q k.full) next))
      | inr off ↦
          let mine : map joined ((y ∷ ys) ++ z ∷ []) ≡ map joined (y ∷ ys) ++ joined z ∷ [] = map-append joined (y ∷ ys) (z ∷ []) in
          subst (Walked fs body m place before) (sym (divided_off t w (map joined (y ∷ ys)) (joined z) (map joined q) off))
          (subst (λ (l : List (List ℕ)). Walked fs body m place before (divided t (waits_behind w (joined z)) l (map joined q))) mine
          (walk t by fs body rs r good last more q y (ys ++ z ∷ []) m place before (waits_behind w (joined z)) (subst (Ready fs body m) (sym (flat_more (y ∷ ys) z q)) ready) (units_more (y ∷ ys) z are (k.are).0) later (has_more (y ∷ ys) z q has) next))
    ]
