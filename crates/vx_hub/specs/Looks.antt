-- What a look finds.
use Rattle.std.specs.Prelude.{ℕ, min, List, [], ◌∷◌, ◌++◌, codes, length, Option, None, Some}
use Rattle.std.specs.Fmt.{decimal}
use Rattle.vx_data.specs.declared.ids.EntryNo.{EntryNo}
use Rattle.vx_message.specs.declared.Lane.{Lane}
use Rattle.vx_call.specs.declared.history.Traced.{Traced}
use Rattle.vx_call.specs.Closings.{hub_closed_at}
use Rattle.vx_call.specs.Deployments.{deployments}
use Rattle.vx_call.specs.Items.{Waiting}
use Rattle.vx_call.specs.Requests.{Open}
use Rattle.vx_call.specs.Next.{next}
use Rattle.vx_call.specs.Summary.{messages_made, deliveries_taken}
use Rattle.vx_hub.specs.declared.look.Look.{Look}
use Rattle.vx_hub.specs.declared.look.Look.TheVariants as looks
use Rattle.vx_hub.specs.declared.totals.Totals.{Totals}

-- where the hub is closed nothing is taken, else what the lane's next task says
abbrev pub look_by : Option EntryNo → Option Waiting → Look
look_by (Some at) item = looks.Stopped
look_by None (Some item) = looks.Ready
look_by None None = looks.Idle

abbrev pub look_at : List Traced → Lane → Look
look_at history lane = look_by (hub_closed_at history) (next history lane)

-- the lesser of two moments, where there is another
abbrev pub or_less : ℕ → Option ℕ → ℕ
or_less due None = due
or_less due (Some other) = min due other

-- the least of the moments at which requests are due
abbrev pub least_due : List Open → Option ℕ
least_due [] = None
least_due (request ∷ others) = Some (or_less request.due (least_due others))

-- what happened in a history, in numbers; no call has to do with a frame yet
abbrev pub totals_of : List Traced → Totals
totals_of history = record { deployments = length (deployments history); messages = messages_made history; deliveries = deliveries_taken history; frames = 0 }

-- the line that says them
abbrev pub summary_line : Totals → List ℕ
summary_line totals =
    codes "deployments " ++ (decimal totals.deployments ++ (codes " messages " ++ (decimal totals.messages ++ (codes " deliveries " ++ (decimal totals.deliveries ++ (codes " frames " ++ (decimal totals.frames ++ 10 ∷ [])))))))
