-- The book of the next group, as it follows what is coded.
use Rattle.std.proofs.Common.{◌≡◌, ℕ, ◌+◌, ◌*◌, ◌<◌, List, length, map, Option, refl, sym, ap, subst, ◌∙◌}
use Rattle.std.specs.Prelude.{All}
use Rattle.m2v_plane.specs.Samples.{Samples}
use Rattle.m2v_set.specs.declared.settings.Settings.{Settings}
use Rattle.m2v_set.specs.Numbers.{rows_by}
use Rattle.m2v_set.proofs.Facts.{bounds}
use Rattle.m2v_order.specs.declared.jobs.PictureJob.{PictureJob}
use Rattle.m2v_order.specs.Times.{intervals_of}
use Rattle.m2v_rate.specs.Plans.{Entries, begun}
use Rattle.m2v_slice.specs.Books.{Book, picture_activities, rows}
use Rattle.m2v_slice.specs.Conditions.{IsBook}
use Rattle.m2v_slice.specs.Jobs.{jobs_of}
use Rattle.m2v_slice.proofs.Groups.{passes_of, rows_few}
use Rattle.m2v_encode.specs.Groups.{IsDone}

pub same_book : (s t : Settings) (frames : List Samples) (pictures : List PictureJob) (before after : Option Samples) (l m : Entries) → s ≡ t → before ≡ after → l ≡ m
    → (let x : Book = record { settings = s; frames = frames; pictures = pictures; before = before; ledger = l } in
    let y : Book = record { settings = t; frames = frames; pictures = pictures; before = after; ledger = m } in x ≡ y)
same_book s t frames pictures before after l m e f g = rw (e, f, g) refl

-- the ledger with which a group begins, by copies of its pictures and of their activities
pub begun_is : (s : Settings) (from l : Entries) (frames : List Samples) (before : Option ℕ) (copied pictures : List PictureJob) (active : List ℕ)
    → copied ≡ pictures → active ≡ picture_activities s frames pictures
    → l ≡ begun from (map (λ (j : PictureJob). j.kind) copied) (intervals_of s before copied) active
    → l ≡ begun from (map (λ (j : PictureJob). j.kind) pictures) (intervals_of s before pictures) (picture_activities s frames pictures)
begun_is s from l frames before copied pictures active same sums is =
    is ∙ ap (λ (js : List PictureJob). begun from (map (λ (j : PictureJob). j.kind) js) (intervals_of s before js) active) same
    ∙ ap (begun from (map (λ (j : PictureJob). j.kind) pictures) (intervals_of s before pictures)) sums

-- a group of which this is the book is done
pub done_is : (b : Book) (s : Settings) (frames : List Samples) (pictures : List PictureJob) (before : Option Samples) (l : Entries)
    (list : List PictureJob) (n k : ℕ) (units : List ℕ)
    → b ≡ record { settings = s; frames = frames; pictures = pictures; before = before; ledger = l }
    → IsBook b → jobs_of b ≡ length b.pictures * (rows b + 1) → list ≡ pictures → n ≡ length frames → k ≡ rows_by s.scan s.height → units ≡ l.intervals
    → All (λ (j : PictureJob). j.display < 1000000) pictures → IsDone b s list n k units
done_is b s frames pictures before l list n k units is h jobs same count high times early = record {
  book = h;
  jobs = jobs;
  settings = sym (ap (λ (x : Book). x.settings) is);
  pictures = same ∙ sym (ap (λ (x : Book). x.pictures) is);
  few = h.group.pictures;
  early = subst (All (λ (j : PictureJob). j.display < 1000000)) (sym (ap (λ (x : Book). x.pictures) is)) early;
  frames = count ∙ sym (ap (λ (x : Book). length x.frames) is);
  most = h.group.frames;
  lines = high ∙ sym (ap rows is);
  low = rows_few b (bounds b.settings (passes_of b h));
  times = times ∙ sym (ap (λ (x : Book). x.ledger.intervals) is);
}
