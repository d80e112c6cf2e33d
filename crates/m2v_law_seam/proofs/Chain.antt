-- Strands that read, agree, and but for the first one keep the rule: with one end code they show what each shows by itself.
use Rattle.std.proofs.Common.{◌≡◌, ℕ, Bool, true, false, List, [], ◌∷◌, ◌++◌, length, Option, Some, Ok, Err, refl, sym, ap, subst, ◌∙◌, append_assoc, append-nil}
use Rattle.std.specs.Prelude.{nat_eq, not}
use Rattle.std.specs.Bool.{beq}
use Rattle.std.proofs.lemmas.Bool.{eqb-true, eq-eqb, not-true}
use Rattle.m2v_model.specs.declared.state.Sequence.{Sequence}
use Rattle.m2v_model.specs.Units.{cut, joined}
use Rattle.m2v_model.specs.States as states
use Rattle.m2v_model.specs.Streams.{Sofar}
use Rattle.m2v_model.specs.Pictures.{Events, Pictures, pictures_in}
use Rattle.m2v_model.specs.Decoding.{Stream, Decodes, low_delay_of, pictures, shown, frames_of}
use Rattle.m2v_model.specs.ByPieces.{Between, Course, text_read}
use Rattle.m2v_model.proofs.PieceLaws.{by_pieces}
use Rattle.m2v_law_group.specs.Groups.{end_code}
use Rattle.m2v_law_group.proofs.Lists.{and_parts}
use Rattle.m2v_law_seam.specs.Strands.{is_read, pictures_of, first_in, frames_in, begins_sequence, has_end, last_open, reads, keeps_rule, are_joint, agrees}
use Rattle.m2v_law_seam.specs.Strands as strands
use Rattle.m2v_law_seam.specs.Mends.{AllDecode, in_turn}
use Rattle.m2v_law_seam.proofs.Strand.{StrandUnits, strand_units, strand_read}
use Rattle.m2v_law_seam.proofs.Joint.{joint_units, joint_read, bool_is}

-- ---- what reads is a stream

pub record ReadsAs (bytes : List ℕ) : Type 0 where
  pub tree : Sofar
  pub units : StrandUnits bytes
  pub stream : Stream (bytes ++ end_code) tree
  pub s : Sequence
  pub first : tree.state.first ≡ Some s
  pub first_is : first_in (strands.read_of bytes) ≡ Some s
  pub pictures_are : pictures_of (strands.read_of bytes) ≡ pictures tree

reads_by : (bytes : List ℕ) (u : StrandUnits bytes) (r : Course) → text_read (bytes ++ end_code) ≡ r → is_read r ≡ true → ReadsAs bytes
reads_by bytes u (Ok (es, b)) e h =
    let i = (by_pieces (bytes ++ end_code)).stands es b e in
    let x = strand_read bytes i.tree u i.stream in
    let first : first_in (strands.read_of bytes) ≡ (i.tree).state.first = ap first_in e ∙ ap (λ (y : Events × Between). (y.1).state.first) i.told in
    record {
      tree = i.tree;
      units = u;
      stream = i.stream;
      s = x.s;
      first = x.first_told;
      first_is = first ∙ x.first_told;
      pictures_are = ap pictures_of e ∙ ap (λ (y : Events × Between). pictures_in y.0) i.told;
    }
reads_by bytes u (Err f) e h = absurd cc

pub reads_as : (bytes : List ℕ) → reads bytes ≡ true → ReadsAs bytes
reads_as bytes h =
    let a = and_parts (begins_sequence bytes) _ h in
    let b = and_parts (not (has_end (cut 0 bytes).1)) _ a.1 in
    let c = and_parts (not (last_open (cut 0 bytes).1)) (is_read (strands.read_of bytes)) b.1 in
    let u = strand_units bytes a.0 (not-true (has_end (cut 0 bytes).1) b.0) (not-true (last_open (cut 0 bytes).1) c.0) in
    reads_by bytes u (text_read (bytes ++ end_code)) refl c.1

-- as many frames are counted of it as it shows
pub frames_counted : (bytes : List ℕ) (r : ReadsAs bytes) → frames_in (strands.read_of bytes) ≡ length (frames_of r.tree)
frames_counted bytes r =
    ap (λ (o : Option Sequence). length (shown (low_delay_of o) (pictures_of (strands.read_of bytes)))) (r.first_is ∙ sym r.first)
    ∙ ap (λ (ps : Pictures). length (shown (low_delay_of (r.tree).state.first) ps)) r.pictures_are

-- ---- agreement goes both ways, and on

pub record Agree (f s : Sequence) : Type 0 where
  pub width : nat_eq (states.width_of f) (states.width_of s) ≡ true
  pub height : nat_eq (states.height_of f) (states.height_of s) ≡ true
  pub progressive : beq f.extension.progressive_sequence s.extension.progressive_sequence ≡ true
  pub format : nat_eq f.extension.chroma_format s.extension.chroma_format ≡ true
  pub code : nat_eq f.info.frame_rate_code s.info.frame_rate_code ≡ true
  pub n : nat_eq f.extension.rate_n s.extension.rate_n ≡ true
  pub d : nat_eq f.extension.rate_d s.extension.rate_d ≡ true
  pub low : beq f.extension.low_delay s.extension.low_delay ≡ true

agree_of : (f s : Sequence) → are_joint f s ≡ true → Agree f s
agree_of f s e =
    let a = and_parts _ (beq f.extension.low_delay s.extension.low_delay) e in
    let b = and_parts _ (nat_eq f.extension.rate_d s.extension.rate_d) a.0 in
    let c = and_parts _ (nat_eq f.extension.rate_n s.extension.rate_n) b.0 in
    let d = and_parts _ (nat_eq f.info.frame_rate_code s.info.frame_rate_code) c.0 in
    let x = and_parts _ (nat_eq f.extension.chroma_format s.extension.chroma_format) d.0 in
    let y = and_parts _ (beq f.extension.progressive_sequence s.extension.progressive_sequence) x.0 in
    let z = and_parts (nat_eq (states.width_of f) (states.width_of s)) (nat_eq (states.height_of f) (states.height_of s)) y.0 in
    record { width = z.0; height = z.1; progressive = y.1; format = x.1; code = d.1; n = c.1; d = b.1; low = a.1 }

agree_by : (f s : Sequence) → Agree f s → are_joint f s ≡ true
agree_by f s a = rw (a.width, a.height, a.progressive, a.format, a.code, a.n, a.d, a.low) refl

nat_back : (a b c : ℕ) → nat_eq a b ≡ true → nat_eq a c ≡ true → nat_eq b c ≡ true
nat_back a b c e f = subst (λ (n : ℕ). nat_eq n c ≡ true) (eqb-true a b e) f

bool_back : (a b c : Bool) → beq a b ≡ true → beq a c ≡ true → beq b c ≡ true
bool_back a b c e f = subst (λ (x : Bool). beq x c ≡ true) (bool_is a b e) f

-- headers that agree with one agree with each other
pub agree_back : (f s x : Sequence) → are_joint f s ≡ true → are_joint f x ≡ true → are_joint s x ≡ true
agree_back f s x e g =
    let a = agree_of f s e in
    let b = agree_of f x g in
    agree_by s x (record {
      width = nat_back (states.width_of f) (states.width_of s) (states.width_of x) a.width b.width;
      height = nat_back (states.height_of f) (states.height_of s) (states.height_of x) a.height b.height;
      progressive = bool_back f.extension.progressive_sequence s.extension.progressive_sequence x.extension.progressive_sequence a.progressive b.progressive;
      format = nat_back f.extension.chroma_format s.extension.chroma_format x.extension.chroma_format a.format b.format;
      code = nat_back f.info.frame_rate_code s.info.frame_rate_code x.info.frame_rate_code a.code b.code;
      n = nat_back f.extension.rate_n s.extension.rate_n x.extension.rate_n a.n b.n;
      d = nat_back f.extension.rate_d s.extension.rate_d x.extension.rate_d a.d b.d;
      low = bool_back f.extension.low_delay s.extension.low_delay x.extension.low_delay a.low b.low;
    })

nat_self : (a : ℕ) → nat_eq a a ≡ true
nat_self a = eq-eqb a a refl

bool_self : (b : Bool) → beq b b ≡ true
bool_self true = refl
bool_self false = refl

pub agree_self : (f : Sequence) → are_joint f f ≡ true
agree_self f = agree_by f f (record {
  width = nat_self (states.width_of f);
  height = nat_self (states.height_of f);
  progressive = bool_self f.extension.progressive_sequence;
  format = nat_self f.extension.chroma_format;
  code = nat_self f.info.frame_rate_code;
  n = nat_self f.extension.rate_n;
  d = nat_self f.extension.rate_d;
  low = bool_self f.extension.low_delay;
})

-- ---- strand behind strand

-- strands behind others, whose first header is f
abbrev pub AllFollow : Sequence → List (List ℕ) → Type 0
AllFollow f [] = Unit {0}
AllFollow f (s ∷ ss) =
    (reads s ≡ true) × (agrees (Some f) (first_in (strands.read_of s)) ≡ true) × (keeps_rule (pictures_of (strands.read_of s)) ≡ true) × AllFollow f ss

-- bytes that read, and strands behind them
pub record Chained (a : List ℕ) (first : Sofar) (ss : List (List ℕ)) : Type 0 where
  pub frames : List (List (List ℕ))
  pub each : AllDecode ss frames
  pub all : Decodes ((a ++ joined ss) ++ end_code) (frames_of first ++ in_turn frames)
  pub units : StrandUnits (a ++ joined ss)

pub chained : (ss : List (List ℕ)) (a : List ℕ) (first : Sofar) (f : Sequence) → StrandUnits a → Stream (a ++ end_code) first → first.state.first ≡ Some f → AllFollow f ss → Chained a first ss
chained [] a first f u p is h = record {
  frames = [];
  each = tt;
  all = record { tree = first; stream = subst (λ (l : List ℕ). Stream (l ++ end_code) first) (sym (append-nil a)) p; shown = append-nil (frames_of first) };
  units = subst StrandUnits (sym (append-nil a)) u;
}
chained (s ∷ ss) a first f u p is h =
    let r = reads_as s h.0 in
    let rule : keeps_rule (pictures r.tree) ≡ true = subst (λ l. keeps_rule l ≡ true) r.pictures_are h.2 in
    let agree : agrees (Some f) (r.tree).state.first ≡ true = ap (agrees (Some f)) (r.first ∙ sym r.first_is) ∙ h.1 in
    let j = joint_read a s first r.tree f u r.units p r.stream is rule agree in
    let c = chained ss (a ++ s) j.tree f (joint_units a s u r.units) j.stream j.first_is h.3 in
    let bytes : ((a ++ s) ++ joined ss) ++ end_code ≡ (a ++ (s ++ joined ss)) ++ end_code = ap (λ (l : List ℕ). l ++ end_code) (append_assoc a s (joined ss)) in
    let shown : frames_of j.tree ++ in_turn c.frames ≡ frames_of first ++ (frames_of r.tree ++ in_turn c.frames) =
    ap (λ (l : List (List ℕ)). l ++ in_turn c.frames) (sym j.frames) ∙ append_assoc (frames_of first) (frames_of r.tree) (in_turn c.frames) in
    record {
      frames = frames_of r.tree ∷ c.frames;
      each = (record { tree = r.tree; stream = r.stream; shown = refl }, frames_counted s r, c.each);
      all = subst (λ (l : List ℕ). Decodes l (frames_of first ++ (frames_of r.tree ++ in_turn c.frames))) bytes (subst (Decodes (((a ++ s) ++ joined ss) ++ end_code)) shown c.all);
      units = subst StrandUnits (append_assoc a s (joined ss)) c.units;
    }
