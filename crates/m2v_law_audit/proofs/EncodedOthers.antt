-- The encoder's units say nothing else before the first slice of a picture.
use Rattle.std.proofs.Common.{◌≡◌, ℕ, zero, suc, ◌+◌, ◌-◌, ◌^◌, ◌<◌, ◌≤◌, Bool, true, false, cond, List, [], ◌∷◌, ◌++◌, length, map, take, replicate, Ok, refl, sym, ap, subst, ◌∙◌, append_assoc, arith}
use Rattle.std.specs.Prelude.{nat_eq}
use Rattle.std.specs.List.{AllByRecursion, range_with_len}
use Rattle.std.proofs.ByRecursion.{All-append}
use Rattle.std.proofs.lemmas.Bool.{ne_eqb, eqb-true}
use Rattle.m2v_bits.specs.Bits.{bits_of, packed, start_code, to_edge, ◌⧺◌}
use Rattle.m2v_bits.specs.Syntax.{Spells, seq, bind, here, rule, renamed}
use Rattle.m2v_bits.specs.Leaves.{bits_at}
use Rattle.m2v_bits.specs.Elements.{flag_at}
use Rattle.m2v_bits.proofs.SyntaxLaws.{Lawful, seq_lawful, done_lawful}
use Rattle.m2v_bits.proofs.LeafLaws.{bits_lawful, bits_spells, seq_spells}
use Rattle.m2v_bits.proofs.ElementLaws.{flag_spells}
use Rattle.m2v_set.specs.m2v_plane.Samples.{Samples}
use Rattle.m2v_set.specs.declared.settings.Settings.{Settings}
use Rattle.m2v_set.specs.Rules.{Passes}
use Rattle.m2v_set.proofs.Facts.{bounds}
use Rattle.m2v_order.specs.declared.jobs.PictureJob.{PictureJob}
use Rattle.m2v_order.specs.Groups.{Group}
use Rattle.m2v_model.specs.m2v_macroblock.m2v_head.declared.fault.HeadFault.TheVariants as heads
use Rattle.m2v_model.specs.m2v_macroblock.m2v_head.declared.picture.PictureInfo.{PictureInfo}
use Rattle.m2v_model.specs.m2v_macroblock.m2v_head.Elements.{id_at}
use Rattle.m2v_model.specs.m2v_macroblock.m2v_head.Headers.{matrices_at}
use Rattle.m2v_model.specs.m2v_macroblock.m2v_head.Texts.{sequence_extension_text, directions_text, picture_text, picture_extension_text}
use Rattle.m2v_model.specs.declared.fault.FaultKind.TheVariants.{Truncated}
use Rattle.m2v_model.specs.Headers.{whole_header, matrices_in}
use Rattle.m2v_model.specs.Pieces.{is_end}
use Rattle.m2v_model.specs.Streams.{value_of}
use Rattle.m2v_model.specs.Texts.{ended, unit_bytes}
use Rattle.m2v_model.specs.Units.{Units, Cuts, cut, body}
use Rattle.m2v_model.proofs.CutLaws.{cuts_is}
use Rattle.m2v_model.proofs.Ends.{end_bytes, end_packs}
use Rattle.m2v_model.proofs.Units.{ended_bits}
use Rattle.m2v_law_shown.specs.m2v_enc_stream.Streams.{Progress, at_start, book_of, group_coded, coded_all, Coded}
use Rattle.m2v_law_shown.specs.m2v_slice.Headers.{picture_of, begins_group, IsJob}
use Rattle.m2v_law_shown.specs.m2v_slice.Books.{rows, job_at}
use Rattle.m2v_law_shown.specs.m2v_enc_stream.Trees.{groups_of}
use Rattle.m2v_law_shown.proofs.m2v_enc_stream.Queues.{coded_is}
use Rattle.m2v_law_shown.proofs.m2v_enc_stream.m2v_slice.Groups.{passes_of, rows_few}
use Rattle.m2v_law_shown.proofs.m2v_enc_stream.m2v_slice.Slices.{is_job}
use Rattle.m2v_law_shown.proofs.Decodes.{spelled}
use Rattle.m2v_law_shown.proofs.m2v_enc_stream.Follows.{stream_follows}
use Rattle.m2v_law_shown.proofs.m2v_enc_stream.TreeGroups.{pictures_units, done_of, ledger_of, MayFollow, group_units_of, AllFollow, groups_units, groups_add}
use Rattle.m2v_law_shown.proofs.m2v_enc_stream.PictureChains.{header_bytes, slices_bytes, picture_units_of, some_rows}
use Rattle.m2v_law_shown.proofs.m2v_enc_stream.TreePictures.{sequence_bytes, extension_bytes, group_bytes, picture_bytes, coding_bytes}
use Rattle.m2v_law_shown.proofs.m2v_enc_stream.SliceUnits.{slice_bytes}
use Rattle.m2v_law_shown.proofs.m2v_enc_stream.Zeros.{padded, padded_cuts}
use Rattle.m2v_audit.specs.Others.{display_id_at, display_at, vector_bits, extra_at, display_told, extra_told, matrices_told, display_in, extra_in, matrices_of, other_at}
use Rattle.m2v_law_audit.proofs.OthersUnits.{AreSilent, IsSilent, silent_plain}

abbrev pub Each : Units → Type 0
Each us = AllByRecursion IsSilent us

-- ---- end codes

same_value : (u : List ℕ) → value_of (take 4 u) ≡ value_of u
same_value [] = refl
same_value (a ∷ []) = refl
same_value (a ∷ b ∷ []) = refl
same_value (a ∷ b ∷ c ∷ []) = refl
same_value (a ∷ b ∷ c ∷ v ∷ w) = refl

pub silent_code : (u : List ℕ) → is_end (value_of u) ≡ true → IsSilent (take 4 u)
unfolding is_end
silent_code u on =
    let e : value_of (take 4 u) ≡ 0xB7 = same_value u ∙ eqb-true (value_of u) 0xB7 on in
    silent_plain (take 4 u) (ap (λ (n : ℕ). nat_eq n 0x00) e) (ap (λ (n : ℕ). nat_eq n 0xB5) e)

-- ---- extensions

id_read : {K : Type 0} (cut : K) (t more : List Bool) (id : ℕ) → t ≡ bits_of 4 id ++ more → id < 2 ^ 4 → (bits_at cut 4).read t ≡ Ok (id, more)
id_read cut t more id e lt =
    ap (bits_at cut 4).read e ∙ (bits_lawful cut 4).only id (bits_of 4 id ++ more) more ((bits_spells cut 4 id lt).stands more)

no_display : (t more : List Bool) (id : ℕ) → (bits_at Truncated 4).read t ≡ Ok (id, more) → nat_eq id 2 ≡ false → display_told (display_at.read t) ≡ []
unfolding display_at display_id_at seq bind here rule
no_display t more id e off = rw (e, off) refl

no_matrices : (bit : ℕ) (t more : List Bool) (id : ℕ) → (bits_at heads.Truncated 4).read t ≡ Ok (id, more) → nat_eq id 3 ≡ false
    → matrices_told bit ((whole_header matrices_in).read t) ≡ []
unfolding whole_header matrices_in renamed matrices_at id_at seq bind here rule
no_matrices bit t more id e off = rw (e, off) refl

-- the bits of a unit, and zeros behind them
body_is : (value : ℕ) (t : List Bool) → body (unit_bytes value t) ≡ t ++ replicate (to_edge (32 + length t)) false
unfolding ended
body_is value t = ended_bits t

pub silent_extension : (t more : List Bool) (id : ℕ) → t ≡ bits_of 4 id ++ more → id < 2 ^ 4 → nat_eq id 2 ≡ false → nat_eq id 3 ≡ false → IsSilent (unit_bytes 0xB5 t)
unfolding other_at display_in matrices_of
silent_extension t more id is lt two three =
    let u = unit_bytes 0xB5 t in
    let zeros = replicate (to_edge (32 + length t)) false in
    let begins : body u ≡ bits_of 4 id ++ (more ++ zeros) =
    body_is 0xB5 t ∙ ap (λ (x : List Bool). x ++ zeros) is ∙ append_assoc (bits_of 4 id) more zeros in
    record {
      each = λ bit.
          let none = no_display (body u) (more ++ zeros) id (id_read Truncated (body u) (more ++ zeros) id begins lt) two in
          let unloaded = no_matrices bit (body u) (more ++ zeros) id (id_read heads.Truncated (body u) (more ++ zeros) id begins lt) three in
          subst AreSilent (sym (λ i. none i ++ unloaded i)) tt;
    }

extension_silent : (s : Settings) → IsSilent (extension_bytes s)
unfolding sequence_extension_text
extension_silent s = silent_extension _ _ 1 refl (omega arith) refl refl

coding_silent : (s : Settings) (job : PictureJob) → IsSilent (coding_bytes s job)
unfolding picture_extension_text
coding_silent s job = silent_extension _ _ 8 refl (omega arith) refl refl

-- ---- picture headers

flag_is : Lawful length (flag_at Truncated)
unfolding flag_at
flag_is = seq_lawful (bits_lawful Truncated 1) (λ bit. done_lawful length (nat_eq bit 1))

extra_lawful : Lawful length extra_at
unfolding extra_at
extra_lawful =
    seq_lawful (bits_lawful Truncated 10)
    (λ reference. seq_lawful (bits_lawful Truncated 3)
    (λ kind. seq_lawful (bits_lawful Truncated 16)
    (λ delay. seq_lawful (bits_lawful Truncated (vector_bits kind)) (λ vectors. flag_is))))

extra_spells : (p : PictureInfo) (v : ℕ) → p.temporal_reference < 2 ^ 10 → p.kind < 2 ^ 3 → p.vbv_delay < 2 ^ 16 → v < 2 ^ vector_bits p.kind
    → directions_text p ≡ bits_of (vector_bits p.kind) v → Spells extra_at false (picture_text p)
unfolding extra_at picture_text
extra_spells p v reference kind delay small is =
    let vectors : Spells (seq (bits_at Truncated (vector_bits p.kind)) (λ x. flag_at Truncated)) false (directions_text p ++ (false ∷ [])) =
    seq_spells (λ x. flag_at Truncated) v false (directions_text p) (false ∷ [])
    (subst (λ (t : List Bool). Spells (bits_at Truncated (vector_bits p.kind)) v t) (sym is) (bits_spells Truncated (vector_bits p.kind) v small))
    (flag_spells Truncated false) in
    seq_spells _ p.temporal_reference false (bits_of 10 p.temporal_reference) _ (bits_spells Truncated 10 p.temporal_reference reference)
    (seq_spells _ p.kind false (bits_of 3 p.kind) _ (bits_spells Truncated 3 p.kind kind)
    (seq_spells _ p.vbv_delay false (bits_of 16 p.vbv_delay) _ (bits_spells Truncated 16 p.vbv_delay delay) vectors))

pub silent_picture : (p : PictureInfo) (v : ℕ) → p.temporal_reference < 2 ^ 10 → p.kind < 2 ^ 3 → p.vbv_delay < 2 ^ 16
    → v < 2 ^ vector_bits p.kind → directions_text p ≡ bits_of (vector_bits p.kind) v → IsSilent (unit_bytes 0x00 (picture_text p))
unfolding other_at extra_in
silent_picture p v reference kind delay small are =
    let t = picture_text p in
    let u = unit_bytes 0x00 t in
    let zeros = replicate (to_edge (32 + length t)) false in
    let spells : Spells extra_at false t = extra_spells p v reference kind delay small are in
    let read : extra_at.read (body u) ≡ Ok (false, zeros) =
    ap extra_at.read (body_is 0x00 t) ∙ extra_lawful.only false (t ++ zeros) zeros (spells.stands zeros) in
    record { each = λ bit. subst AreSilent (sym (ap (extra_told bit) read)) (refl, tt) }

-- what the encoder writes of vectors in a picture header of a kind
record Directions (kind : ℕ) : Type 0 where
  number : ℕ
  small : number < 2 ^ vector_bits kind
  are : cond (nat_eq kind 1) []
      ((false ∷ []) ⧺ bits_of 3 (cond (nat_eq kind 1) 0 7) ⧺ cond (nat_eq kind 2) [] ((false ∷ []) ⧺ bits_of 3 (cond (nat_eq kind 3) 7 0)))
      ≡ bits_of (vector_bits kind) number

directions_of : (kind : ℕ) → 1 ≤ kind → kind ≤ 3 → Directions kind
unfolding bits_of
directions_of zero some most = absurd (omega (arith, some))
directions_of (suc zero) some most = record { number = 0; small = omega arith; are = refl }
directions_of (suc (suc zero)) some most = record { number = 7; small = omega arith; are = refl }
directions_of (suc (suc (suc zero))) some most = record { number = 119; small = omega arith; are = refl }
directions_of (suc (suc (suc (suc n)))) some most = absurd (omega (arith, most))

picture_silent : (job : PictureJob) (delay : ℕ) → IsJob job → delay < 65536 → IsSilent (picture_bytes job delay)
unfolding picture_of directions_text
picture_silent job delay is small =
    let d = directions_of job.kind is.kind.0 is.kind.1 in
    silent_picture (picture_of job delay) d.number (omega (arith, is.frame)) (omega (arith, is.kind.1)) (omega (arith, small)) d.small d.are

-- ---- a picture

headers_silent : (s : Settings) (job : PictureJob) (delay : ℕ) → IsJob job → delay < 65536 → Each (header_bytes s job delay)
headers_silent s job delay is small = by (begins_group job)
  where
    by : (begins : Bool)
        → Each (cond begins (sequence_bytes s ∷ extension_bytes s ∷ group_bytes s (job.display - job.frame) ∷ []) [] ++ picture_bytes job delay ∷ coding_bytes s job ∷ [])
    by true = (
      silent_plain (sequence_bytes s) refl refl,
      (extension_silent s, (silent_plain (group_bytes s (job.display - job.frame)) refl refl, (picture_silent job delay is small, (coding_silent s job, tt)))),
    )
    by false = (picture_silent job delay is small, (coding_silent s job, tt))

-- units of slices, by their start codes
slice_silent : (r zeros : ℕ) (t : List Bool) → r < 72 → IsSilent (padded (unit_bytes (r + 1) t) zeros)
slice_silent r zeros t few =
    silent_plain (padded (unit_bytes (r + 1) t) zeros) (ne_eqb (r + 1) 0x00 (λ e. absurd (omega (arith, e)))) (ne_eqb (r + 1) 0xB5 (λ e. absurd (omega (arith, e, few))))

pub map_silent : (unit : ℕ → List ℕ) (from n : ℕ) → ((r : ℕ) → r < from + n → IsSilent (unit r)) → Each (map unit (range_with_len from n))
map_silent unit from zero each = tt
map_silent unit from (suc n) each = (each from (omega arith), map_silent unit (from + 1) n (λ r lt. each r (omega (arith, lt))))

module _ (s : Settings) (x : Progress) (g : Group Samples) (ends : Bool) (may : MayFollow s x g ends) where
  few_rows : rows (book_of s x g) ≤ 72
  few_rows = rows_few (book_of s x g) (bounds (book_of s x g).settings (passes_of (book_of s x g) may.book))

  slices_silent : (p zeros : ℕ) → Each (slices_bytes (book_of s x g) p zeros)
  slices_silent p zeros =
      let b = book_of s x g in
      let some = some_rows b may.book in
      let few = few_rows in
      All-append IsSilent (map (λ r. padded (slice_bytes b p r) 0) (range_with_len 0 (rows b - 1))) (padded (slice_bytes b p (rows b - 1)) zeros ∷ [])
      (map_silent (λ r. padded (slice_bytes b p r) 0) 0 (rows b - 1) (λ r lt. slice_silent r 0 _ (omega (arith, lt, few))))
      (slice_silent (rows b - 1) zeros _ (omega (arith, some, few)), tt)

  pictures_silent : (n : ℕ) → n ≤ length g.pictures → Each (pictures_units (book_of s x g) (done_of s x g) (ledger_of s x g) ends (length x.text) n)
  unfolding pictures_units
  pictures_silent zero le = tt
  pictures_silent (suc n) le =
      let b = book_of s x g in
      let lt : n < length b.pictures = omega (arith, le) in
      All-append IsSilent (pictures_units b (done_of s x g) (ledger_of s x g) ends (length x.text) n) (picture_units_of b (ledger_of s x g) ends _ n)
      (pictures_silent n (omega (arith, le)))
      (All-append IsSilent (header_bytes b.settings (job_at b n) _) (slices_bytes b n _)
      (headers_silent b.settings (job_at b n) _ (is_job b may.book n lt) (may.small n lt)) (slices_silent n _))

-- ---- the stream

groups_silent : (s : Settings) (x : Progress) (gs : List (Group Samples)) → AllFollow s x gs → Each (groups_units s x gs)
unfolding groups_units AllFollow
groups_silent s x [] all = tt
groups_silent s x (g ∷ []) all = pictures_silent s x g true all (length g.pictures) (omega arith)
groups_silent s x (g ∷ h ∷ more) all =
    All-append IsSilent (group_units_of s x g false) (groups_units s (group_coded s x g false) (h ∷ more))
    (pictures_silent s x g false all.0 (length g.pictures) (omega arith)) (groups_silent s (group_coded s x g false) (h ∷ more) all.1)

pub coded_silent : (s : Settings) (frames : List (List ℕ)) → Passes s → length frames ≤ 999999 → Each (cut 0 (Coded s frames)).1
coded_silent s frames passes few =
    let x = at_start s in
    let gs = groups_of s frames in
    let us = groups_units s x gs in
    let all = stream_follows s frames passes few in
    let adds = groups_add spelled s gs x all in
    let text : (coded_all s frames).text ≡ adds.bits = ap (λ (y : Progress). y.text) (coded_is s frames) ∙ adds.is in
    let cuts : Cuts (Coded s frames) [] (us ++ end_bytes ∷ []) =
    subst (λ (t : List Bool). Cuts (packed (t ++ start_code 0xB7)) [] (us ++ end_bytes ∷ [])) (sym text)
    (padded_cuts adds.bits (start_code 0xB7) us end_bytes adds.holds end_packs) in
    subst Each (sym (ap (λ (c : List ℕ × Units). c.1) (cuts_is (Coded s frames) [] (us ++ end_bytes ∷ []) cuts)))
    (All-append IsSilent us (end_bytes ∷ []) (groups_silent s x gs all) (silent_plain end_bytes refl refl, tt))
