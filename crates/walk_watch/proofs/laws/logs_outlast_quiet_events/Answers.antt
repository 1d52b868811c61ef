use Rattle.std.proofs.Common.{refl, sym, None}
use Rattle.tlb_watch.specs.declared.effect.CacheEffect.TheVariants.{Nothing}
use Rattle.walk_watch.proofs.laws.logs_outlast_quiet_events.Goals as goal

pub returns : goal.returns
returns c = λ o event past log quiet logged. (
  log,
  logged,
  record {
    effect = Nothing;
    word = None;
    former = None;
    does = λ h. sym (quiet h).effect;
    words = λ no_reset pa. (λ i. (quiet 0).memory i pa);
    satps = λ no_reset h. (quiet h).satp;
    own = refl;
    global = refl;
    notes = refl;
  },
)
