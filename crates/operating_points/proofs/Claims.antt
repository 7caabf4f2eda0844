-- The claims of specs/Claims. Assumes nothing.
use borrow.Author.Tests.{eq-eqb}
use Rattle.rules.specs.Studies.{point_refusal}
use Rattle.converter.specs.Lcc.{lcc_point}
use Rattle.operating_points.specs.Claims.{PointClaims}

pub point_claims : PointClaims
unfolding lcc_point
point_claims =
    record {
      lcc_accepted = λ s i h. rw (eq-eqb (point_refusal s) 0 h);
      lcc_refused = λ s i h. rw h;
      vsc_accepted = λ s p v h. rw (eq-eqb (point_refusal s) 0 h);
      vsc_refused = λ s p v h. rw h;
      lcc_voltage_lem = λ s i h. rw (eq-eqb (point_refusal s) 0 h);
    }
