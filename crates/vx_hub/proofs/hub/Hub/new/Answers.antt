use Rattle.vx_call.specs.History.{lasting}
use Rattle.std.proofs.Common.{◌+◌, ◌≤◌, [], ap, sym, ◌∙◌, subst, arith, max}
use Rattle.std.specs.Prelude.{map, filter, length, find, fold}
use Rattle.std.specs.List.{count_by}
use Rattle.std.specs.Option.{option_map, option_or}
use Rattle.std.specs.Str.{bytes_eq}
use Rattle.vx_message.specs.declared.Given.{Given}
use Rattle.vx_data.specs.Ids.{same_message}
use Rattle.vx_call.specs.Passes.{pass_kind}
use Rattle.vx_call.specs.Contexts.{context_kind}
use Rattle.vx_call.specs.Consumers.{consumer_kind, is_at}
use Rattle.vx_call.specs.Choices.{choice_kind}
use Rattle.vx_call.specs.Given.{given_kind}
use Rattle.vx_call.specs.Pools.{pool_kind}
use Rattle.vx_call.specs.Requests.{open_kind, by_due}
use Rattle.vx_call.specs.Time.{moment_kind}
use Rattle.vx_call.specs.Settled.{settled_kind, dropped_kind}
use Rattle.vx_call.specs.Codecs.{codec_kind}
use Rattle.vx_call.specs.Rules.{rule_kind}
use Rattle.vx_call.specs.Items.{item_kind, task_kind}
use Rattle.vx_call.specs.Held.{held_kind}
use Rattle.vx_call.specs.Rows.{ids_of}
use Rattle.vx_call.proofs.Dropped.{ended_among, dropped_among}
use Rattle.vx_call.specs.Closings.{Closing, closing_kind, is_closing_of}
use Rattle.vx_call.proofs.Lasting.{lasting_none}
use Rattle.vx_call.proofs.Legal.{legal_none}
use Rattle.vx_context.specs.Stores.{ContextStore, closed_in, item_of}
use Rattle.vx_bus_store.specs.Stores.{handler_of, row_of, timer_of}
use Rattle.vx_hub.specs.Stores.{HubStore}
use Rattle.vx_hub.specs.Stands.{HubStands}
use Rattle.vx_instances.proofs.Rows.{none_at_first}
use Rattle.vx_life.specs.Stores.{LifeStore}
use Rattle.vx_life.specs.Stands.{LifeStands}
use Rattle.vx_life_rows.proofs.Begins.{life_begins}
use Rattle.vx_core_life.specs.Moving.{promised}
use Rattle.vx_core_tasks.proofs.Named.{none_named}
use Rattle.vx_hub.proofs.hub.Hub.new.Given as given
use Rattle.vx_hub.proofs.hub.Hub.new.Goals as goal

-- a hub with empty stores is that of the empty history
empty : (g : given.Over) (c : goal.After-new-6 g) → (let hub : HubStore = record { counts = c.new.result; passes = 1; now = c.at.result; life = c.new-2.result; contexts = c.new-3.result; timers = c.new-4.result; bus = c.new-5.result; instances = c.new-6.result.kept } in HubStands hub [])
empty g c = record {
  counts = c.new.ensures;
  parts = record {
    passes = ap (λ ps. length ps + 1) (sym (lasting_none pass_kind));
    now = c.at.ensures ∙ ap (fold max 0) (sym (lasting_none moment_kind));
    named = none_named;
    all = record {
      stores = record {
        stored = tt;
        contexts = record {
          made = ap (λ (s : ContextStore). s.made) c.new-3.ensures ∙ sym (lasting_none context_kind);
          closings = λ id. ap (λ (s : ContextStore). closed_in id s.closings) c.new-3.ensures ∙ sym (ap (λ all. option_map (λ (closing : Closing). closing.at) (find (is_closing_of id) all)) (lasting_none closing_kind));
          held = ap (λ (s : ContextStore). s.held) c.new-3.ensures ∙ sym (lasting_none held_kind);
          pools = ap (λ (s : ContextStore). s.pools) c.new-3.ensures ∙ sym (lasting_none pool_kind);
          waiting = ap (λ (s : ContextStore). s.waiting) c.new-3.ensures ∙ ap (map (item_of [])) (sym (lasting_none item_kind));
        };
        timers = c.new-4.ensures ∙ ap (λ rs. map timer_of (by_due rs)) (sym (lasting_none open_kind));
        bus = record {
          consumers = c.new-5.ensures.consumers ∙ ap (map (handler_of [])) (sym (lasting_none consumer_kind));
          rings = λ a. c.new-5.ensures.in_turn a ∙ ap (λ cs. ids_of (filter (is_at a) cs)) (sym (lasting_none consumer_kind));
          choices = λ a. c.new-5.ensures.choices a ∙ ap (count_by (bytes_eq a)) (sym (lasting_none choice_kind));
          tasks = c.new-5.ensures.tasks ∙ sym (lasting_none task_kind);
          opened = c.new-5.ensures.requests ∙ ap (map row_of) (sym (lasting_none open_kind));
          ended = λ id. c.new-5.ensures.ended id ∙ sym (ap (λ all. option_or (ended_among id all) (dropped_among id (lasting dropped_kind []))) (lasting_none settled_kind) ∙ ap (dropped_among id) (lasting_none dropped_kind));
          given = λ id. c.new-5.ensures.given id ∙ ap (λ gs. find (λ (g : Given). same_message id g.id) gs) (sym (lasting_none given_kind));
          codecs = c.new-5.ensures.codecs ∙ sym (lasting_none codec_kind);
          rules = c.new-5.ensures.rules ∙ sym (lasting_none rule_kind);
        };
      };
      lives = (let L : LifeStore → Type 0 = λ life. LifeStands life [] in subst L (sym c.new-2.ensures) life_begins);
    };
  };
}

pub invariant_of-result : goal.invariant_of-result
invariant_of-result g c = (
  ∣ ([], (empty g c, legal_none)) ∣₁,
  record {
    items = rw (c.new-5.ensures.requests, c.new-5.ensures.consumers) (omega arith);
    tasks = rw c.new-5.ensures.requests (omega arith);
  },
  (let L : LifeStore → Type 0 = λ life. promised life ≤ c.new-3.result.owed in subst L (sym c.new-2.ensures) (omega arith)),
)

pub returns-clause-empty : goal.returns-clause-empty
returns-clause-empty g c = record { parts = empty g c; instances = c.new-6.ensures ∙ none_at_first; legal = legal_none }
