-- The warning on the parity of fields, frame after frame as they are shown: the fields of an interlaced sequence alternate, where
-- frames repeat a field too.
use Rattle.std.specs.Prelude.{ℕ, Bool, ◌&&◌, ◌||◌, not, nat_eq, if◌then◌else◌, [], Option, Some, None}
use Rattle.m2v_model.specs.States.{is_frame}
use Rattle.m2v_check.specs.declared.coded.CodedPicture.{CodedPicture}
use Rattle.m2v_check.specs.Running.{ends_frame}
use Rattle.m2v_strict.specs.declared.element.Element.TheVariants as elements
use Rattle.m2v_strict.specs.declared.parity.ShownFrame.{ShownFrame}
use Rattle.m2v_strict.specs.declared.parity.Parity.{Parity}
use Rattle.m2v_strict.specs.Remarks.{Remarks, remark, judge, number_of}

-- ---- a frame

-- whether its first field is the top one: in a frame picture as top_field_first says, and else the second picture is the other
abbrev pub begins_top : CodedPicture → Bool
begins_top p = if is_frame p.note.extension then p.note.extension.top_field_first else nat_eq p.note.extension.structure 2

-- it is shown for three fields, and else for two
abbrev pub repeats : CodedPicture → Bool
repeats p = is_frame p.note.extension && p.note.extension.repeat_first_field

-- the frame that a picture ends, whose start code stands at a bit of the input
abbrev pub shown_frame : CodedPicture → ℕ → ShownFrame
shown_frame p bit = record {
  picture = p.number;
  bit = bit;
  first_top = begins_top p;
  last_top = if repeats p then begins_top p else not (begins_top p);
}

-- a picture that ends a frame of an interlaced sequence, which is shown
abbrev pub has_parity : CodedPicture → Bool
has_parity p = not p.sequence.extension.progressive_sequence && (ends_frame p.note && not p.note.dropped)

-- ---- 58

abbrev pub differ : Bool → Bool → Bool
differ a b = if a then not b else b

-- the first field of a frame has another parity than the last one shown before it (1 is the top field)
unfoldable pub parity_warning : Option Bool → ShownFrame → Remarks
parity_warning None f = []
parity_warning (Some last) f =
    judge (differ last f.first_top) (remark 58 elements.FieldParity (number_of f.first_top) (number_of (not f.first_top)))

-- ---- frames in display order

-- nothing was shown, and no anchor waits
abbrev pub no_parity : Bool → Parity
no_parity low_delay = record { low_delay = low_delay; last = None; anchor = None }

-- a B frame is shown at once, and with low_delay each frame; an anchor once the next one comes
abbrev pub shown_with : Parity → ShownFrame → Bool → Option ShownFrame
shown_with o f b = if o.low_delay || b then Some f else o.anchor

-- the parity of the last field that is shown by then
abbrev pub last_with : Option Bool → Option ShownFrame → Option Bool
last_with last None = last
last_with last (Some f) = Some f.last_top

abbrev pub parity_with : Parity → ShownFrame → Bool → Parity
parity_with o f b = record {
  low_delay = o.low_delay;
  last = last_with o.last (shown_with o f b);
  anchor = if o.low_delay || b then o.anchor else Some f;
}
