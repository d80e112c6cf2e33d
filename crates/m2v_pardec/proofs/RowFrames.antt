-- What a picture of a batch is predicted from are the frames at hand.
use Rattle.std.proofs.Common.{◌≡◌, ℕ, Bool, true, false, Option, Some, None, refl, sym, ap, ◌∙◌}
use Rattle.std.specs.Prelude.{nat_eq}
use Rattle.std.proofs.lemmas.Bool.{cond-false}
use Rattle.m2v_model.specs.Pictures.{Store, no_references, references_by}
use Rattle.m2v_decode.specs.m2v_dec_picture.declared.gallery.Reading.{Reading}
use Rattle.m2v_decode.specs.m2v_dec_picture.Frames.{references_at}
use Rattle.m2v_dec_batch.specs.Jobs.{header_at, newer_before, older_before, first_field}
use Rattle.m2v_dec_batch.specs.Batches.{Batch, headers, Rows, frame_at, references}
use Rattle.m2v_dec_batch.specs.Painted.{all_rows}
use Rattle.m2v_pardec.specs.Behind.{Tracks}

-- what a picture is predicted from goes by the frames at hand alone, and by a first field's at a second field alone
references_same : (kind structure : ℕ) (second : Bool) (s t : Store) → s.older ≡ t.older → s.newer ≡ t.newer → (second ≡ true → s.current ≡ t.current)
    → references_by kind second structure s ≡ references_by kind second structure t
unfolding references_by
references_same kind structure true s t older newer current =
    let waiting = current refl in
    λ i. references_by kind true structure (record { older = older i; newer = newer i; current = waiting i; references = no_references })
references_same kind structure false s t older newer current =
    λ i. references_by kind false structure (record { older = older i; newer = newer i; current = None; references = no_references })

-- the frames of a batch before a picture
abbrev store_at : Batch → Rows → ℕ → Store
store_at b at p = record {
  older = frame_at b at (older_before (headers b) p);
  newer = frame_at b at (newer_before (headers b) p);
  current = frame_at b at (first_field p);
  references = no_references;
}

references_told : (b : Batch) (at : Rows) (p : ℕ) → nat_eq (header_at (headers b) p).kind 1 ≡ false
    → references b at p ≡ references_by (header_at (headers b) p).kind (header_at (headers b) p).second (header_at (headers b) p).structure (store_at b at p)
references_told b at p e =
    let h = header_at (headers b) p in
    let s = store_at b at p in
    ap (λ (r : Option Reading). references_at r s.older s.newer s.current)
    (cond-false (nat_eq h.kind 1) None (Some (record { kind = h.kind; second_field = h.second; structure = h.structure })) e)

-- a P or B picture's references are those of the frames at hand
pub references_are : (b : Batch) (p : ℕ) (store : Store) → Tracks b p store → nat_eq (header_at (headers b) p).kind 1 ≡ false
    → references b (all_rows b) p ≡ references_by (header_at (headers b) p).kind (header_at (headers b) p).second (header_at (headers b) p).structure store
references_are b p store tracks e =
    let x = header_at (headers b) p in
    references_told b (all_rows b) p e
    ∙ references_same x.kind x.structure x.second (store_at b (all_rows b) p) store (sym tracks.older) (sym tracks.newer) (λ second. sym (tracks.waiting second))
