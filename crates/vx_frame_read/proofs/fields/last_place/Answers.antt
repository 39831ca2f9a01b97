use Rattle.std.proofs.Common.{◌≡◌, ◌+◌, ◌-◌, ◌<◌, ◌≤◌, ℕ, List, refl, sym, ◌∙◌, ap, length, take, arith}
use Rattle.std.specs.Str.{bytes_eq}
use Rattle.std.proofs.lemmas.Option.{slice_get_read}
use Rattle.vx_json_parts.specs.declared.part.Part.{Part}
use Rattle.vx_frame_read.specs.Fields.{last_part, part_of}
use Rattle.vx_frame_read.proofs.LastFields.{other_at, same_at}
use Rattle.vx_frame_read.proofs.fields.last_place.Goals as goal

pub returns-then-eq-clause-part : goal.returns-then-eq-clause-part
returns-then-eq-clause-part c =
    let name = c.args.name.now in
    let fields = c.args.fields.now in
    let i = c.loop-place.place - 1 in
    let here : i + 1 ≡ c.loop-place.place = omega arith in
    let within : i < length fields = omega (arith, c.loop-place.invariant.within) in
    let named = ap (λ (f : List ℕ × Part). bytes_eq f.0 name) c.index-fields-place.is ∙ ap (λ s. bytes_eq s name) (sym c.as_str.ensures.same) ∙ sym c.eq.ensures ∙ c.if-eq.true in
    sym c.loop-place.invariant.same ∙ ap (λ k. last_part name (take k fields)) (sym here) ∙ same_at name fields i c.index-fields-place.result within c.index-fields-place.is named
    ∙ sym (ap part_of (slice_get_read fields (length fields) i c.index-fields-place.result refl within c.index-fields-place.is))

pub loop-place-preserved : goal.loop-place-preserved
loop-place-preserved c =
    let name = c.args.name.now in
    let fields = c.args.fields.now in
    let i = c.loop-place.place - 1 in
    let here : i + 1 ≡ c.loop-place.place = omega arith in
    let within : i < length fields = omega (arith, c.loop-place.invariant.within) in
    let other = ap (λ (f : List ℕ × Part). bytes_eq f.0 name) c.index-fields-place.is ∙ ap (λ s. bytes_eq s name) (sym c.as_str.ensures.same) ∙ sym c.eq.ensures ∙ c.if-eq.false in
    record {
      within = omega (arith, c.loop-place.invariant.within);
      same = sym (other_at name fields i c.index-fields-place.result within c.index-fields-place.is other) ∙ ap (λ k. last_part name (take k fields)) here ∙ c.loop-place.invariant.same;
    }
