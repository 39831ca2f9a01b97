-- What a Take notes of the lives of verticles.
use Rattle.std.specs.Prelude.{map}
use Rattle.vx_message.specs.declared.ItemKind.{ItemKind}
use Rattle.vx_message.specs.declared.ItemKind.TheVariants as kinds
use Rattle.vx_life.specs.Stores.{LifeStore, with_taken}

-- the lives once a task of this kind is handed out: a stop is taken, all else is as it was
abbrev pub handed_out_of : ItemKind → LifeStore → LifeStore
handed_out_of (kinds.Stop context) life = record life { stops = map (with_taken context) life.stops }
handed_out_of _ life = life
