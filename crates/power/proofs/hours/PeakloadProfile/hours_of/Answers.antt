use Rattle.power.specs.HourLaws.{peakload-answer}
use Rattle.power.proofs.hours.PeakloadProfile.hours_of.Goals as goal

pub returns : goal.returns
returns c =
    peakload-answer c.args.month c.in_ok-first.first c.in_ok-length.length _ c.in_ok-first.ensures.is c.in_ok-length.ensures.is c.peak_hours.ensures
