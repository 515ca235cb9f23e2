-- The number, place and layer of the refusals of a log. Assumes nothing.
use Rattle.operations.specs.Refusals.{refusal}
use Rattle.operations.specs.declared.refusal.Layer.TheVariants as layer
use Rattle.operations.specs.declared.refusal.Refusal.{Refusal}
use Rattle.lives.specs.declared.refusal.LogRefusal.{LogRefusal}
use Rattle.lives.specs.declared.refusal.LogRefusal.TheVariants.{FirstTick, NoCabinet, NoSuchBay, Busy, Full, NoTick, NotWaiting, Waiting}

-- places: the offending tick, cabinet or bay; the busy cabinet; the number that the ended and waiting operations reach; the next
-- tick; the ticket's tick; the count waiting
abbrev pub log_refusal : LogRefusal → Refusal
log_refusal (FirstTick first) = refusal 17 first layer.Log
log_refusal (NoCabinet cabinet) = refusal 8 cabinet layer.Log
log_refusal (NoSuchBay bay) = refusal 8 bay layer.Log
log_refusal (Busy cabinet) = refusal 18 cabinet layer.Log
log_refusal (Full limit) = refusal 19 limit layer.Log
log_refusal (NoTick next) = refusal 20 next layer.Log
log_refusal (NotWaiting begun) = refusal 21 begun layer.Log
log_refusal (Waiting count) = refusal 22 count layer.Log
