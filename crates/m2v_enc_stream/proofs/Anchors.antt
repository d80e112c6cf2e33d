-- Each group leaves a reconstruction of its last anchor.
use Rattle.std.proofs.Common.{◌≡◌, ℕ, suc, ◌<◌, Bool, true, false, cond, List, [], ◌∷◌, length, get_or, Option, Some, None, refl, sym, ap, subst, arith}
use Rattle.std.specs.Prelude.{nat_eq, is_some, IfSome}
use Rattle.m2v_plane.specs.Samples.{Samples}
use Rattle.m2v_set.specs.Numbers.{dims_of}
use Rattle.m2v_order.specs.declared.jobs.PictureJob.{PictureJob}
use Rattle.m2v_slice.specs.Books.{Book, no_job, all_coded}
use Rattle.m2v_slice.specs.Conditions.{IsBook}
use Rattle.m2v_slice.proofs.Groups.{picture_is_one}
use Rattle.m2v_slice.proofs.Firsts.{first_kind}
use Rattle.m2v_enc_stream.specs.Streams.{frame_of, frame_or, anchor_frame, anchor_behind}

-- it is there once one was met
pub record IsSomeBelow (n : ℕ) (o : Option ℕ) : Type 0 where
  pub frame : ℕ
  pub below : frame < n
  pub is : o ≡ Some frame

anchor_kept : (n : ℕ) (jobs : List PictureJob) (last : Option ℕ) → ((i : ℕ) → i < length jobs → (get_or jobs i no_job).frame < n) → IsSomeBelow n last → IsSomeBelow n (anchor_frame last jobs)
unfolding anchor_frame
anchor_kept n [] last each h = h
anchor_kept n (job ∷ more) last each h =
    anchor_kept n more (cond (nat_eq job.kind 3) last (Some job.frame)) (λ i lt. each (suc i) (omega (arith, lt)))
    (by_kind (nat_eq job.kind 3))
  where
    by_kind : (t : Bool) → IsSomeBelow n (cond t last (Some job.frame))
    by_kind true = h
    by_kind false = record { frame = job.frame; below = each 0 (omega arith); is = refl }

anchor_from : (n : ℕ) (jobs : List PictureJob) → 0 < length jobs → (get_or jobs 0 no_job).kind ≡ 1 → ((i : ℕ) → i < length jobs → (get_or jobs i no_job).frame < n) → IsSomeBelow n (anchor_frame None jobs)
unfolding anchor_frame
anchor_from n [] some kind each = absurd (omega (arith, some))
anchor_from n (job ∷ more) some kind each =
    anchor_kept n more (cond (nat_eq job.kind 3) None (Some job.frame)) (λ i lt. each (suc i) (omega (arith, lt)))
    (record { frame = job.frame; below = each 0 (omega arith); is = ap (λ (k : ℕ). cond (nat_eq k 3) None (Some job.frame)) kind })

pub anchor_is : (b : Book) → IsBook b → IsSomeBelow (length b.frames) (anchor_frame None b.pictures)
anchor_is b h = anchor_from (length b.frames) b.pictures (omega (arith, h.group.picture)) (first_kind b h) (λ i lt. (picture_is_one b h i lt).frame)

pub anchor_some : (b : Book) → IsBook b → is_some (anchor_behind b) ≡ true
unfolding frame_or
anchor_some b h = ap (λ (o : Option ℕ). is_some (frame_or b.before b (all_coded b) o)) (anchor_is b h).is

pub anchor_size : (b : Book) → IsBook b → IfSome (anchor_behind b) (λ (f : Samples). f.dims ≡ dims_of b.settings)
unfolding frame_or frame_of
anchor_size b h = subst (λ (o : Option ℕ). IfSome (frame_or b.before b (all_coded b) o) (λ (f : Samples). f.dims ≡ dims_of b.settings)) (sym (anchor_is b h).is) refl
