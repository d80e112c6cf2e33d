-- A span that is put behind the strand that is under way, or isn't.
use Rattle.std.proofs.Common.{◌≡◌, ℕ, Bool, true, false, List, [], ◌∷◌, ◌++◌, length, Option, Some, None, Result, refl, sym, ap, subst, ◌∙◌, arith}
use Rattle.std.proofs.lemmas.List.{nil_from_length}
use Rattle.std.proofs.lemmas.Bool.{not-false}
use Rattle.m2v_model.specs.declared.state.Sequence.{Sequence}
use Rattle.m2v_model.specs.Units.{joined}
use Rattle.m2v_decode.specs.m2v_dec_piece.declared.answer.Piece.{Piece}
use Rattle.m2v_decode.specs.m2v_dec_piece.declared.answer.Fault.{Fault}
use Rattle.m2v_law_seam.specs.Spans.{units_of, has_group, Span}
use Rattle.m2v_law_seam.specs.Seams.{low_behind, text_behind, has_own_head}
use Rattle.m2v_law_seam.specs.Strands.{read_of, first_in, is_short, is_strand}
use Rattle.m2v_law_seam.specs.Faults.{fault_alone, fault_of}
use Rattle.m2v_law_seam.specs.Mending.{Gap, Mending, strands_of, frames_shown, first_kept, groups_behind, low_of_span, goes_behind, put_behind, begins_strand, strand_begun, left_out, with_span}
use Rattle.m2v_law_seam.proofs.Same.{span_behind}
use Rattle.m2v_mend.specs.declared.begin.Begun.{Begun}
use Rattle.m2v_mend.specs.declared.mender.Behind.{Behind}
use Rattle.m2v_mend.specs.declared.mender.Behind.TheVariants as behinds
use Rattle.m2v_mend.specs.declared.mender.Mender.{Mender}
use Rattle.m2v_mend.specs.declared.parts.SpanParts.{SpanParts}
use Rattle.m2v_mend.specs.Members.{AreSpanPieces, IsOfStretch, IsSpan}
use Rattle.m2v_mend.specs.Putting.{CanBePut, IsUnderWay, PutTold, BeginTold}
use Rattle.m2v_mend.specs.Making.{IsMade, IsUnder, CanBeNext}
use Rattle.m2v_mend.specs.Mender.{over, IsFirstGroup, WentOn, IsWhyNot, IsWithout, PutOrNot, BehindTold, IsLong, IsNotLong}
use Rattle.m2v_mend.specs.Strand.{StrandState, wholes_of, IsAt}
use Rattle.m2v_mend.proofs.Made.{no_text, goes_by, fault_first_none, fault_put, some_there, strand_made, put_is, under_bytes, over_made, begins_on, left_on}

-- a span in memory that isn't long is within the limits
pub short_is : (s : Span) (x : SpanParts) → IsSpan s x → x.long ≡ false → is_short s ≡ true
short_is s x is off = not-false (is_short s) (sym is.long ∙ off)

-- no strand has a byte, and the span has no header
pub not_under : (m : Mending) (s : Span) (z : StrandState) → IsUnder m (Some z) → IsOfStretch s → is_short s ≡ true → z.bytes ≡ 0 → has_own_head s.pieces ≡ false
    → (goes_behind m s ≡ false) × (fault_of m.strand (low_of_span m s) m.first s ≡ fault_alone m.first s)
not_under m s z u stretch short none off =
    let empty : u.0 ≡ [] = nil_from_length u.0 (sym (u.2).length_is ∙ none) in
    let e : m.strand ≡ Some [] = u.1 ∙ ap Some empty in
    (goes_by m s [] e short ∙ ap (is_strand m.opening m.first) (no_text s.pieces (low_of_span m s) stretch.pieces off), fault_first_none m s e short off)

pub can_put : (m : Mending) (bytes : List ℕ) (s : Span) → m.strand ≡ Some bytes → CanBeNext m.strand s.pieces → (bytes ≡ [] → has_own_head s.pieces ≡ true) → CanBePut bytes s.pieces
can_put m [] s e next own = own refl
can_put m (b ∷ t) s e next own = subst (λ (o : Option (List ℕ)). CanBeNext o s.pieces) e next

pub low_is : (ps : List (List ℕ)) (flag : Bool) (own low result : ℕ) → AreSpanPieces ps → IsFirstGroup ps flag → own ≡ low → ((p : List ℕ) (qs : List (List ℕ)) → has_group (units_of p) ≡ flag → result ≡ low_behind own (p ∷ qs)) → result ≡ low_behind low ps
low_is [] flag own low result are group e r = absurd are
low_is (p ∷ ps) flag own low result are group e r = r p ps group ∙ ap (λ (n : ℕ). low_behind n (p ∷ ps)) e

-- what is told of a span behind a strand, in the words of what is made
pub told_as : (m : Mending) (s : Span) (z y : StrandState) (first : Option Sequence) (low : ℕ) (bytes : List ℕ) (old new : List Piece) (o : Option Fault) → IsAt z bytes → z.opening ≡ m.opening → first ≡ m.first → low ≡ low_of_span m s → IsUnderWay m.opening m.first bytes
    → (IsUnderWay z.opening first bytes → PutTold z.opening first bytes low s old new o y) → PutTold m.opening m.first bytes (low_of_span m s) s old new o y
told_as m s z y first low bytes old new o at eo ef el way told =
    let own : IsUnderWay z.opening first bytes = subst (λ (b : Bool). IsUnderWay b first bytes) (sym eo) (subst (λ (f : Option Sequence). IsUnderWay m.opening f bytes) (sym ef) way) in
    subst (λ (b : Bool). PutTold b m.first bytes (low_of_span m s) s old new o y) eo
    (subst (λ (f : Option Sequence). PutTold z.opening f bytes (low_of_span m s) s old new o y) ef (subst (λ (n : ℕ). PutTold z.opening first bytes n s old new o y) el (told own)))

-- it doesn't go there
pub refused_as : (m : Mending) (s : Span) (y : StrandState) (bytes : List ℕ) (old new : List Piece) (f : Fault) → m.strand ≡ Some bytes → is_short s ≡ true → CanBePut bytes s.pieces → PutTold m.opening m.first bytes (low_of_span m s) s old new (Some f) y
    → (goes_behind m s ≡ false) × IsWhyNot m s (Some f)
refused_as m s y bytes old new f e short can told = (goes_by m s bytes e short ∙ told.0, fault_put m s bytes e short can ∙ told.1)

-- it was put there
pub put_as_told : (written : List ℕ) (listed : List Gap) (m : Mending) (s : Span) (x before new : Mender) (y : StrandState) (low : ℕ) (bytes : List ℕ) → IsMade written listed m x → m.strand ≡ Some bytes → is_short s ≡ true → low ≡ low_of_span m s
    → before ≡ record x { strand = None; out = before.out } → PutTold m.opening m.first bytes (low_of_span m s) s x.out.items before.out.items None y → WentOn s y low before new
    → (goes_behind m s ≡ true) × IsMade written listed (put_behind m s) new
put_as_told written listed m s x before new y low bytes is e short el shape told went =
    let text = text_behind bytes (low_of_span m s) s.pieces in
    let t = bytes ++ text in
    let some = some_there m.opening m.first t told.0 in
    let own : went.own ≡ first_in (read_of t) = went.own_is t told.1 (omega (arith, ap length some.2)) in
    let groups : went.groups ≡ groups_behind m.groups s = went.groups_is ∙ ap (λ (n : ℕ). groups_behind n s) (ap (λ (z : Mender). z.groups) shape ∙ is.groups) in
    let now : new ≡ record x { strand = Some y; first = first_kept x.first went.own; low = low_of_span m s; groups = groups_behind m.groups s; out = new.out } =
    went.is ∙ ap (λ (z : Mender). record z { strand = Some y; first = first_kept z.first went.own; low = low; groups = went.groups }) shape
    ∙ ap (λ (n : ℕ). record x { strand = Some y; first = first_kept x.first went.own; low = n; groups = went.groups; out = before.out }) el
    ∙ ap (λ (n : ℕ). record x { strand = Some y; first = first_kept x.first went.own; low = low_of_span m s; groups = n; out = before.out }) groups
    ∙ ap (λ (z : Mender). record x { strand = Some y; first = first_kept x.first went.own; low = low_of_span m s; groups = groups_behind m.groups s; out = z.out }) (sym went.is) in
    let out : joined (wholes_of new.out.items) ≡ joined (wholes_of x.out.items) ++ text = ap (λ (z : Mender). joined (wholes_of z.out.items)) went.is ∙ told.3 in (
      goes_by m s bytes e short ∙ told.0,
      subst (λ (w : Mending). IsMade written listed w new) (sym (put_is m s bytes e))
          (strand_made written listed m x new m.opening (low_of_span m s) (groups_behind m.groups s) went.own y bytes t text is (under_bytes m bytes e) refl told.0 told.1 told.2 own out now),
    )

-- ---- the strand has ended where it wasn't put there

without_made : (written : List ℕ) (listed : List Gap) (m : Mending) (x y new : Mender) (frames bytes : ℕ) → IsMade written listed m x → frames ≡ frames_shown (strands_of m) → bytes ≡ length (joined (strands_of m)) → IsWithout x y
    → new ≡ record y { strand = None; low = 0; frames = frames; bytes = bytes } → IsMade written listed (over m) new
without_made written listed m x y new frames bytes is f n w shape =
    over_made written listed m x new frames bytes is f n
    (shape ∙ ap (λ (z : Mender). record z { strand = None; low = 0; frames = frames; bytes = bytes }) w.is ∙ ap (λ (z : Mender). record x { strand = None; low = 0; frames = frames; bytes = bytes; out = z.out }) (sym shape))
    (ap (λ (z : Mender). z.out.items) shape ∙ w.out)

pub behind_told : (written : List ℕ) (listed : List Gap) (m : Mending) (s : Span) (b : Behind) (x y new : Mender) (frames bytes : ℕ) → IsMade written listed m x → frames ≡ frames_shown (strands_of m) → bytes ≡ length (joined (strands_of m))
    → PutOrNot written listed m s b x y → (b ≡ behinds.Put → ⊥) → new ≡ record y { strand = None; low = 0; frames = frames; bytes = bytes } → BehindTold written listed m s b new
behind_told written listed m s behinds.Put x y new frames bytes is f n told not_put shape = absurd (not_put refl)
behind_told written listed m s (behinds.NotUnderWay z) x y new frames bytes is f n told not_put shape = (told.0, told.1, without_made written listed m x y new frames bytes is f n told.2 shape)
behind_told written listed m s (behinds.Refused g z) x y new frames bytes is f n told not_put shape = (told.0, told.1, without_made written listed m x y new frames bytes is f n told.2 shape)
behind_told written listed m s (behinds.Long g z) x y new frames bytes is f n told not_put shape = absurd told

pub long_by : (b : Behind) (long : Bool) → IsNotLong b → long ≡ false → IsLong b long
long_by behinds.Put long n e = tt
long_by (behinds.NotUnderWay x) long n e = e
long_by (behinds.Refused f x) long n e = e
long_by (behinds.Long f x) long n e = absurd n

-- the span is given back, with what is known of it
pub given_back : (P : SpanParts → Type 0) (x y : SpanParts) → y ≡ x → P x → P y
given_back P x y same h = subst P (sym same) h

-- ---- a strand begins, or the span is left out

pub begin_as : (m : Mending) (s : Span) (first : Option Sequence) (olds news : List Piece) (o : Result Begun Fault) → first ≡ m.first → olds ≡ [] → BeginTold first s olds news o → BeginTold m.first s [] news o
begin_as m s first olds news o f none told = subst (λ (l : List Piece). BeginTold m.first s l news o) none (subst (λ (g : Option Sequence). BeginTold g s olds news o) f told)

pub begun_is : (written : List ℕ) (listed : List Gap) (m : Mending) (s : Span) (new : Mender) → goes_behind m s ≡ false → begins_strand m.first s ≡ true → IsMade written listed (strand_begun m s) new → IsMade written listed (with_span m s) new
begun_is written listed m s new off on is = subst (λ (w : Mending). IsMade written listed w new) (sym (begins_on m s off on)) is

pub left_is : (written : List ℕ) (listed : List Gap) (m : Mending) (s : Span) (new : Mender) → goes_behind m s ≡ false → begins_strand m.first s ≡ false → IsMade written listed (left_out m s) new → IsMade written listed (with_span m s) new
left_is written listed m s new off none is = subst (λ (w : Mending). IsMade written listed w new) (sym (left_on m s off none)) is

pub put_is_all : (written : List ℕ) (listed : List Gap) (m : Mending) (s : Span) (new : Mender) → goes_behind m s ≡ true → IsMade written listed (put_behind m s) new → IsMade written listed (with_span m s) new
put_is_all written listed m s new on is = subst (λ (w : Mending). IsMade written listed w new) (sym (span_behind m s on)) is
