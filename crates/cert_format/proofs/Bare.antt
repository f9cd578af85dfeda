-- A certificate without its records is a certificate.
use Rattle.std.proofs.Common.{arith}
use Rattle.std.proofs.lemmas.List.Elements.{All-nil}
use Rattle.cert_format.specs.Certificate.{Content, IsCertificate, IsRecord}
use Rattle.cert_format.specs.Parts.{bare}

pub bare_fits : (c : Content) → IsCertificate c → IsCertificate (bare c)
bare_fits c fits =
    let l = fits.limits in
    record {
      limits = record {
        version = l.version;
        bound = l.bound;
        across_low = l.across_low;
        across_high = l.across_high;
        up_low = l.up_low;
        up_high = l.up_high;
        held = l.held;
        few = omega arith;
      };
      held = fits.held;
      entries = All-nil IsRecord;
    }
