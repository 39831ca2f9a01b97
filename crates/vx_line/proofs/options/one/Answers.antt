use Rattle.std.proofs.Common.{◌≡◌, ◌∙◌, ◌++◌, ◌∷◌, sym, ap, true, false, Bool, Option, Some, None, is_some, option_map}
use Rattle.std.specs.Option.{option_to_list}
use Rattle.std.specs.Str.{bytes_eq}
use Rattle.vx_line.specs.Grammar.{option_name, texts_of}
use Rattle.vx_line.specs.Reading.{options_of}
use Rattle.vx_line.proofs.Choices.{one_none, one_twice, one_next}
use Rattle.vx_line.proofs.Runs.{texts_named, texts_other, texts_none}
use Rattle.vx_line.proofs.options.one.Goals as goal

is_some_map : {A B : Type 0} (view : A → B) (o : Option A) (b : Bool) → is_some o ≡ b → is_some (option_map view o) ≡ b
is_some_map view None b e = e
is_some_map view (Some x) b e = e

pub returns-then-is_some : goal.returns-then-is_some
returns-then-is_some c =
    let named : bytes_eq (option_name c.in-Some.option.now) c.args.name.now ≡ true = ap (λ name. bytes_eq name c.args.name.now) (sym c.split_name.ensures.name) ∙ sym c.if-eq.ensures in
    let texts = texts_named c.args.name.now c.loop-option.rest.now (c.in-Some.option.now, c.in-Some.behind.now) (sym c.in-Some.ensures.option) named in
    one_twice (option_map (λ x. x.now) c.loop-option.found) _ _ _ (is_some_map (λ x. x.now) c.loop-option.found true (sym c.if-is_some.ensures)) (sym (ap (λ t. option_to_list (option_map (λ x. x.now) c.loop-option.found) ++ t) texts) ∙ c.loop-option.invariant)

pub loop-option-preserved-else-is_some : goal.loop-option-preserved-else-is_some
loop-option-preserved-else-is_some c =
    let named : bytes_eq (option_name c.in-Some.option.now) c.args.name.now ≡ true = ap (λ name. bytes_eq name c.args.name.now) (sym c.split_name.ensures.name) ∙ sym c.if-eq.ensures in
    let texts = texts_named c.args.name.now c.loop-option.rest.now (c.in-Some.option.now, c.in-Some.behind.now) (sym c.in-Some.ensures.option) named in
    ap (λ t. t ∷ texts_of c.args.name.now (options_of c.in-Some.behind.now).words) c.split_name.ensures.text
    ∙ one_next (option_map (λ x. x.now) c.loop-option.found) _ _ _ (is_some_map (λ x. x.now) c.loop-option.found false (sym c.if-is_some.ensures)) (sym (ap (λ t. option_to_list (option_map (λ x. x.now) c.loop-option.found) ++ t) texts) ∙ c.loop-option.invariant)

pub loop-option-preserved : goal.loop-option-preserved
loop-option-preserved c =
    let other : bytes_eq (option_name c.in-Some.option.now) c.args.name.now ≡ false = ap (λ name. bytes_eq name c.args.name.now) (sym c.split_name.ensures.name) ∙ sym c.if-eq.ensures in
    let texts = texts_other c.args.name.now c.loop-option.rest.now (c.in-Some.option.now, c.in-Some.behind.now) (sym c.in-Some.ensures.option) other in
    ap (λ t. option_to_list (option_map (λ x. x.now) c.loop-option.found) ++ t) (sym texts) ∙ c.loop-option.invariant

pub returns : goal.returns
returns c =
    one_none (option_map (λ x. x.now) c.loop-option.found) _ (sym (ap (λ texts. option_to_list (option_map (λ x. x.now) c.loop-option.found) ++ texts) (texts_none c.args.name.now c.loop-option.rest.now (sym c.in_default.ensures.option))) ∙ c.loop-option.invariant)
