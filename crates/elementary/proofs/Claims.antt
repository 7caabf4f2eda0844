-- The claims of specs/Claims.antt, proved. Assumes nothing.
use Rattle.elementary.specs.Claims.{ExponentialClaims, WaveClaims}
use Rattle.elementary.proofs.ExpBound.{E_between}
use Rattle.elementary.proofs.WaveBound.{sine_within, cosine_within}

pub exponential_claims : ExponentialClaims
exponential_claims = record { between = E_between }

pub wave_claims : WaveClaims
wave_claims = record { sine = sine_within; cosine = cosine_within }
