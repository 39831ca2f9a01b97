use Rattle.std.proofs.Common.{◌≡◌, ◌-◌, List, length, map, take, ap, sym, ◌∙◌, subst}
use Rattle.std.proofs.lemmas.List.{take-map, length-map}
use Rattle.vx_message.specs.declared.Context.{Context}
use Rattle.vx_context.specs.declared.contexts.Kept.{Kept}
use Rattle.vx_context.specs.Stores.{ContextStore, context_of}
use Rattle.vx_context.specs.contracts.contexts.Contexts as view
use Rattle.vx_context.proofs.contexts.Contexts.take_back.Goals as goal

pub returns : goal.returns
returns c =
    let kept = c.self.inside.contexts.items in
    let left = c.truncate.ensures.items ∙ ap (λ n. take n kept) (c.saturating_sub.ensures ∙ ap (λ n. n - c.args.count) (c.len.ensures ∙ c.self.inside.contexts.ok.0)) in
    let made = ap (map context_of) left ∙ sym (take-map context_of (length kept - c.args.count) kept) ∙ ap (λ n. take (n - c.args.count) (map context_of kept)) (sym (length-map kept context_of)) in
    let inside = view.the_view c.self.inside in
    subst (λ (s : ContextStore). record inside { made = map context_of c.truncate.new.self.items; closings = c.truncate.new.self.items } ≡ record s { made = take (length s.made - c.args.count) s.made; closings = take (length s.closings - c.args.count) s.closings }) c.self.view_is
    (ap (λ m. record inside { made = m; closings = c.truncate.new.self.items }) made ∙ ap (λ k. record inside { made = take (length (map context_of kept) - c.args.count) (map context_of kept); closings = k }) left)
