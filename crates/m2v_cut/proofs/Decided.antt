-- Whether a group stands alone, by what is looked at of two pieces.
use Rattle.std.proofs.Common.{◌≡◌, ◌⊎◌, ℕ, zero, suc, ◌+◌, ◌-◌, ◌<◌, ◌≤◌, Bool, true, false, List, [], ◌∷◌, ◌++◌, length, drop, Option, Some, None, inl, inr, refl, sym, ap, subst, ◌∙◌, append_assoc, arith}
use Rattle.std.specs.Prelude.{nat_eq, nat_le, not, is_some, ◌&&◌, ◌||◌, if◌then◌else◌}
use Rattle.std.proofs.lemmas.Bool.{cases_Bool, eqb-true, or_parts}
use Rattle.std.proofs.lemmas.List.{append-nil}
use Rattle.m2v_model.specs.Units.{Units, cut}
use Rattle.m2v_model.proofs.ShiftLaws.{BeginsPiece}
use Rattle.m2v_law_group.specs.Groups.{is_sequence, is_group, has_picture, has_sequence, group_headers, from_last_sequence, before_group, from_group, coded_pictures, begins_intra, stands_alone}
use Rattle.m2v_decode.specs.m2v_dec_piece.declared.answer.Piece.{Piece}
use Rattle.m2v_decode.specs.Decoding.{whole_of}
use Rattle.m2v_law_group.specs.m2v_dec_unit.Texts.{units_in}
use Rattle.m2v_cut.specs.declared.look.FirstPicture.{FirstPicture}
use Rattle.m2v_cut.specs.declared.start.Start.{Start}
use Rattle.m2v_model.specs.Streams.{value_of}
use Rattle.m2v_cut.specs.Answers.{first_picture, has_intra, picture_structure, groups_of}
use Rattle.m2v_cut.specs.Progress.{all_groups}
use Rattle.m2v_cut.specs.Starts.{IsLooked, IsSequencePlace, IsStart, is_long, is_field_number, is_other, is_intra_frame, cut_place}
use Rattle.m2v_cut.proofs.Shapes.{Shape, IsPictured, AreEnds, Split, Splits, Follows, BeginsSequence}
use Rattle.m2v_cut.proofs.Fulls.{Fulls, before_split, split_groups, fulls_groups, fulls_picture}
use Rattle.m2v_cut.proofs.Places.{is_first, first_none, holds, in_piece, tail_headers, headers_one, before_other}
use Rattle.m2v_cut.proofs.Takings.{Stands, stands, alone_before, not_alone}
use Rattle.m2v_cut.proofs.Intras.{frame_of, first_numbers, first_same, intra_is, frame_alone, frame_second}

-- ---- the headers of a group in its piece

-- a group's header, the headers behind it and the piece's picture
pub record Opened (n : ℕ) (vs : Units) (s : Shape vs) : Type 0 where
  pub head : List ℕ
  pub heads : Units
  pub is : from_group n vs ≡ head ∷ (heads ++ s.tail)
  pub group : is_group head ≡ true
  pub none : has_picture heads ≡ false
  pub whole : vs ≡ before_group n vs ++ from_group n vs
  pub before : has_picture (before_group n vs) ≡ false

pub opened : (n : ℕ) (vs : Units) (s : Shape vs) → n < group_headers vs → Opened n vs s
unfolding has_picture
opened n vs s here =
    let h = holds n vs [] here in
    let i = in_piece n vs s here in
    go h.head h.rest i.heads (sym h.is ∙ i.behind) h.group i.no_picture h.is i.none h.whole
  where
    go : (head : List ℕ) (rest heads : Units) → head ∷ rest ≡ heads ++ s.tail → is_group head ≡ true → has_picture heads ≡ false → from_group n vs ≡ head ∷ rest → has_picture (before_group n vs) ≡ false → vs ≡ before_group n vs ++ from_group n vs → Opened n vs s
    go head rest [] e group none is before whole =
        let t : group_headers (head ∷ rest) ≡ 0 = ap group_headers e ∙ tail_headers s.tail s.pictured in
        absurd (omega (arith, t, headers_one head rest group))
    go head rest (h ∷ heads) e group none is before whole =
        let same : head ≡ h = cc in
        let more : rest ≡ heads ++ s.tail = cc in
        record {
          head = head;
          heads = heads;
          is = is ∙ ap (λ (l : Units). head ∷ l) more;
          group = group;
          none = (or_parts _ _ none).1;
          whole = whole;
          before = before;
        }

-- ---- the first frame

-- the piece behind a group's piece was looked at where the picture of that is one field
abbrev pub LooksAt : Option Piece → FirstPicture → List (List ℕ) → Type 0
LooksAt None f later = (is_field_number f.structure ≡ false) ⊎ (later ≡ [])
LooksAt (Some p) f later = (is_field_number f.structure ≡ true) × ((qs : List (List ℕ)) × (later ≡ whole_of p ∷ qs))

pub looked_number : (structure : ℕ) (found : Option (List ℕ × List ℕ)) (f : FirstPicture) → IsLooked found f → is_first (suc structure) found ≡ (f.intra && nat_eq f.structure (suc structure))
looked_number structure found f l = first_numbers structure found ∙ (λ i. (sym l.intra) i && nat_eq ((sym l.structure) i) (suc structure))

-- by numbers for each of the three structures
frame_numbers : (one next : ℕ → Bool) (intra : Bool) (structure : ℕ) → ((s : ℕ) → one (suc s) ≡ (intra && nat_eq structure (suc s))) → frame_of one next ≡ frame_of (λ s. intra && nat_eq structure s) next
frame_numbers one next intra structure e = λ i. e 2 i || (e 0 i && next 2 || e 1 i && next 1)

next_numbers : (one next : ℕ → Bool) (intra : Bool) (structure : ℕ) → ((s : ℕ) → next (suc s) ≡ (intra && nat_eq structure (suc s))) → frame_of one next ≡ frame_of one (λ s. intra && nat_eq structure s)
next_numbers one next intra structure e = λ i. one 3 || (one 1 && e 1 i || one 2 && e 0 i)

-- nothing stands behind a piece without a picture
pub none_behind : (ps : List (List ℕ)) (rest tail ends : Units) → Follows ps tail ends → Splits ps rest → tail ≡ [] → rest ≡ []
none_behind [] rest tail ends f s e = s
none_behind (q ∷ ps) rest tail ends f s e = absurd (f.0 e)

-- pieces' units begin a piece
pub splits_begin : (ps : List (List ℕ)) (us : Units) → Splits ps us → BeginsPiece us
splits_begin [] us s = subst BeginsPiece (sym s) tt
splits_begin (p ∷ ps) us s =
    let one : Split p ps us s.0 = s.1 in
    subst BeginsPiece (sym one.is) (go one.vs s.0 one.begins (λ e. splits_begin ps s.0 s.2))
  where
    go : (vs rest : Units) → BeginsPiece vs → (vs ≡ [] → BeginsPiece rest) → BeginsPiece (vs ++ rest)
    go [] rest b f = f refl
    go (v ∷ vs) rest b f = b

-- the first picture of a piece that follows, and of all pieces from it on
pub second_same : (structure : ℕ) (p : List ℕ) (qs : List (List ℕ)) (z : Units) → Splits (p ∷ qs) z → is_first structure (first_picture z) ≡ is_first structure (first_picture (cut 0 p).1)
second_same structure p qs z s =
    let one : Split p qs z s.0 = s.1 in
    let h = one.shape in
    let all : z ≡ h.heads ++ (h.tail ++ s.0) = one.is ∙ ap (λ (l : Units). l ++ s.0) h.is ∙ append_assoc h.heads h.tail s.0 in
    let whole : (cut 0 p).1 ≡ h.heads ++ (h.tail ++ one.ends) = ap (λ (x : List ℕ × Units). x.1) one.units ∙ ap (λ (l : Units). l ++ one.ends) h.is ∙ append_assoc h.heads h.tail one.ends in
    ap (λ (l : Units). is_first structure (first_picture l)) all
    ∙ first_same structure h.heads h.tail s.0 one.ends h.none h.pictured (none_behind qs s.0 h.tail one.ends one.follows s.2) one.apart one.at_end (splits_begin qs s.0 s.2)
    ∙ ap (λ (l : Units). is_first structure (first_picture l)) (sym whole)

-- the first frame of a group is what was looked at
pub frame_is : (heads tail z ends : Units) (f : FirstPicture) (second : Option Piece) (later : List (List ℕ)) → has_picture heads ≡ false → IsPictured tail → (tail ≡ [] → z ≡ []) → ((tail ≡ [] → ⊥) → ends ≡ []) → AreEnds ends → Splits later z
    → IsLooked (first_picture (heads ++ (tail ++ ends))) f → LooksAt second f later → begins_intra (coded_pictures (before_group 0 (heads ++ (tail ++ z)))) ≡ is_intra_frame f second
unfolding first_picture
frame_is heads tail z ends f second later none pictured last apart at_end s looked l =
    intra_is heads tail z none pictured last
    ∙ frame_numbers (λ k. is_first k (first_picture (heads ++ (tail ++ z)))) (λ k. is_first k (first_picture z)) f.intra f.structure
    (λ k. first_same (suc k) heads tail z ends none pictured last apart at_end (splits_begin later z s) ∙ looked_number k (first_picture (heads ++ (tail ++ ends))) f looked)
    ∙ by_second second l
  where
    by_second : (o : Option Piece) → LooksAt o f later → frame_of (λ k. f.intra && nat_eq f.structure k) (λ k. is_first k (first_picture z)) ≡ is_intra_frame f o
    by_second None (inl off) = frame_alone f.intra f.structure (λ k. is_first k (first_picture z)) (inl off)
    by_second None (inr over) =
        let e : z ≡ [] = subst (λ (ps : List (List ℕ)). Splits ps z) over s in
        frame_alone f.intra f.structure (λ k. is_first k (first_picture z)) (inr (λ k. ap (λ (l : Units). is_first k (first_picture l)) e))
    by_second (Some p) m =
        let us : Units = (cut 0 (whole_of p)).1 in
        let found : Option (List ℕ × List ℕ) = first_picture us in
        let t : Splits (whole_of p ∷ m.1.0) z = subst (λ (ps : List (List ℕ)). Splits ps z) m.1.1 s in
        next_numbers (λ k. f.intra && nat_eq f.structure k) (λ k. is_first k (first_picture z)) (has_intra found) (picture_structure found)
        (λ k. second_same (suc k) (whole_of p) m.1.0 z t ∙ first_numbers k found)
        ∙ frame_second f.intra f.structure (has_intra found) (picture_structure found) m.0

-- ---- a group's piece behind others

pub record At (from n : ℕ) (us : Units) (first : List (List ℕ)) (w : List ℕ) (later : List (List ℕ)) : Type 0 where
  pub front : Units
  pub back : Units
  pub rest : Units
  pub is : us ≡ front ++ back
  pub fulls : Fulls first front
  pub split : Split w later back rest
  pub others : Splits later rest
  pub few : all_groups first ≤ from
  pub number : n ≡ from - all_groups first
  pub here : n < group_headers split.vs

-- what stands behind the group's header in the piece
pub behind_header : (from n : ℕ) (us : Units) (first : List (List ℕ)) (w : List ℕ) (later : List (List ℕ)) (a : At from n us first w later)
    → drop 1 (from_group n (cut 0 w).1) ≡ (opened n (a.split).vs (a.split).shape a.here).heads ++ (((a.split).shape).tail ++ (a.split).ends)
behind_header from n us first w later a =
    let one : Split w later a.back a.rest = a.split in
    let s : Shape one.vs = one.shape in
    let o : Opened n one.vs s = opened n one.vs s a.here in
    let behind : from_group n (cut 0 w).1 ≡ from_group n one.vs ++ one.ends = ap (λ (x : List ℕ × Units). from_group n x.1) one.units ∙ (holds n one.vs one.ends a.here).behind in
    ap (drop 1) behind ∙ ap (λ (l : Units). drop 1 (l ++ one.ends)) o.is ∙ append_assoc o.heads s.tail one.ends

pub at_group : (from n : ℕ) (us : Units) (first : List (List ℕ)) (w : List ℕ) (later : List (List ℕ)) → Splits (first ++ w ∷ later) us → all_groups first ≤ from → n ≡ from - all_groups first → n < groups_of w → At from n us first w later
at_group from n us first w later s few number here =
    let b = before_split first w later us s in
    let one : Split w later b.behind (b.splits).0 = (b.splits).1 in
    record {
      front = b.front;
      back = b.behind;
      rest = (b.splits).0;
      is = b.is;
      fulls = b.fulls;
      split = one;
      others = (b.splits).2;
      few = few;
      number = number;
      here = omega (arith, here, split_groups w later b.behind (b.splits).0 one);
    }

pub stands_at : (from n : ℕ) (us : Units) (first : List (List ℕ)) (w : List ℕ) (later : List (List ℕ)) → (a : At from n us first w later) → Stands from n us a.front (a.split).vs a.rest
stands_at from n us first w later a =
    let g = fulls_groups first a.front a.fulls in
    let number : from - group_headers a.front ≡ n = omega (arith, g, a.number) in
    let one = a.split in
    subst (λ (k : ℕ). Stands from k us a.front one.vs a.rest) number
    (stands from us a.front one.vs a.rest (a.is ∙ ap (λ (l : Units). a.front ++ l) one.is) (omega (arith, g, a.few)) (omega (arith, number, a.here)))

-- ---- sequence headers

pub begins_has : (xs ys : Units) → BeginsSequence (xs ++ ys) → (xs ≡ [] → ⊥) → has_sequence xs ≡ true
unfolding has_sequence
begins_has [] ys b some = absurd (some refl)
begins_has (x ∷ xs) ys b some = rw b refl

sequence_no_group : (u : List ℕ) → is_sequence u ≡ true → is_group u ≡ false
sequence_no_group u on = let e = eqb-true (value_of u) 0xB3 on in rw e refl

pub before_has : (n : ℕ) (xs ys : Units) → BeginsSequence (xs ++ ys) → n < group_headers xs → has_sequence (before_group n xs) ≡ true
unfolding has_sequence group_headers
before_has n [] ys b here = absurd (omega arith)
before_has n (x ∷ xs) ys b here = ap has_sequence (before_other n x xs (sequence_no_group x b)) ∙ rw b refl

-- a picture stands between the last sequence header and a group without one in its piece
pub sequence_behind_picture : (n : ℕ) (first : List (List ℕ)) (front vs rest : Units) → Fulls first front → BeginsSequence (front ++ (vs ++ rest)) → n < group_headers vs → has_sequence (before_group n vs) ≡ false → has_picture (from_last_sequence (front ++ before_group n vs)) ≡ true
unfolding has_picture
sequence_behind_picture n [] front vs rest f b here off =
    let t : has_sequence (before_group n vs) ≡ true = before_has n vs rest (subst (λ (l : Units). BeginsSequence (l ++ (vs ++ rest))) f b) here in
    let x : true ≡ false = sym t ∙ off in
    absurd cc
sequence_behind_picture n (p ∷ ps) front vs rest f b here off =
    let some : front ≡ [] → ⊥ = λ e. let x : true ≡ false = sym (fulls_picture (p ∷ ps) front f) ∙ ap has_picture e in absurd cc in
    not_alone p ps front (before_group n vs) f (begins_has front (vs ++ rest) b some) off

-- ---- the decision

pub by_sequence : (picture b : Bool) (place : Option ℕ) → (is_some place ≡ true → picture ≡ false) → (is_some place ≡ false → picture ≡ true) → (not picture && b) ≡ is_some (if b then place else None)
by_sequence picture true None on off = rw (off refl) refl
by_sequence picture false None on off = rw (off refl) refl
by_sequence picture true (Some q) on off = rw (on refl) refl
by_sequence picture false (Some q) on off = rw (on refl) refl

is_long_head : (us ends : Units) (u : List ℕ) (rest : Units) → us ≡ u ∷ rest → is_long (us ++ ends) ≡ nat_le 8 (length u)
is_long_head us ends u rest e = ap (λ (l : Units). is_long (l ++ ends)) e

-- whether a group stands alone is what was decided
pub decided : (from n : ℕ) (us : Units) (first : List (List ℕ)) (w : List ℕ) (later : List (List ℕ)) (start : Start) (second : Option Piece) → At from n us first w later → BeginsSequence us → IsStart (cut 0 w).1 n start → LooksAt second start.first later
    → stands_alone (before_group from us) (from_group from us) ≡ is_some (cut_place start second)
decided from n us first w later start second a begins is looks =
    let one : Split w later a.back a.rest = a.split in
    let shape : Shape one.vs = one.shape in
    let o : Opened n one.vs shape = opened n one.vs shape a.here in
    let st : Stands from n us a.front one.vs a.rest = stands_at from n us first w later a in
    let h = holds n one.vs one.ends a.here in
    let wu : (cut 0 w).1 ≡ one.vs ++ one.ends = ap (λ (x : List ℕ × Units). x.1) one.units in
    let behind : from_group n (cut 0 w).1 ≡ from_group n one.vs ++ one.ends = ap (from_group n) wu ∙ h.behind in
    let before : before_group n (cut 0 w).1 ≡ before_group n one.vs = ap (before_group n) wu ∙ h.before in
    let long : start.long ≡ nat_le 8 (length o.head) = is.long ∙ ap is_long behind ∙ is_long_head (from_group n one.vs) one.ends o.head (o.heads ++ shape.tail) o.is in
    let after : drop 1 (from_group n (cut 0 w).1) ≡ o.heads ++ (shape.tail ++ one.ends) = ap (drop 1) behind ∙ ap (λ (l : Units). drop 1 (l ++ one.ends)) o.is ∙ append_assoc o.heads shape.tail one.ends in
    let frame = frame_is o.heads shape.tail a.rest one.ends start.first second later o.none shape.pictured (none_behind later a.rest shape.tail one.ends one.follows a.others) one.apart one.at_end a.others
    (subst (λ (l : Units). IsLooked (first_picture l) start.first) after is.first) looks in
    let all : from_group from us ≡ o.head ∷ (o.heads ++ (shape.tail ++ a.rest)) = st.behind ∙ ap (λ (l : Units). l ++ a.rest) o.is ∙ ap (λ (l : Units). o.head ∷ l) (append_assoc o.heads shape.tail a.rest) in
    let text : us ≡ a.front ++ (one.vs ++ a.rest) = a.is ∙ ap (λ (l : Units). a.front ++ l) one.is in
    let place : IsSequencePlace start.sequence (cut 0 w).1 (before_group n one.vs) (from_group n (cut 0 w).1) = subst (λ (l : Units). IsSequencePlace start.sequence (cut 0 w).1 l (from_group n (cut 0 w).1)) before is.sequence in
    (λ i. stands_alone (st.before i) (all i))
    ∙ (λ i. not (has_picture (from_last_sequence (a.front ++ before_group n one.vs))) && (sym long i && frame i))
    ∙ by_sequence (has_picture (from_last_sequence (a.front ++ before_group n one.vs))) (start.long && is_intra_frame start.first second) start.sequence
    (λ on. alone_before n a.front one.vs shape a.here (there start.sequence (cut 0 w).1 (before_group n one.vs) (from_group n (cut 0 w).1) place on))
    (λ off. sequence_behind_picture n first a.front one.vs a.rest a.fulls (subst BeginsSequence text begins) a.here (missing start.sequence (cut 0 w).1 (before_group n one.vs) (from_group n (cut 0 w).1) place off))
  where
    there : (q : Option ℕ) (us b f : Units) → IsSequencePlace q us b f → is_some q ≡ true → has_sequence b ≡ true
    there None us b f p on = absurd cc
    there (Some q) us b f p on = p.0

    missing : (q : Option ℕ) (us b f : Units) → IsSequencePlace q us b f → is_some q ≡ false → has_sequence b ≡ false
    missing None us b f p off = p
    missing (Some q) us b f p off = absurd cc
