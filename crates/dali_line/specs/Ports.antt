use Rattle.dali_line.specs.declared.port.Kind.{Kind}
use Rattle.dali_line.specs.declared.port.Kind.TheVariants.{First, Second, Third, Fourth, Spare}
use Rattle.dali_line.specs.Shares.{PortShare, port_share, no_share}

-- what a port of each kind speaks for
abbrev pub port_share_of : {P0 P1 P2 P3 : Type 0} → Kind P0 P1 P2 P3 → PortShare
port_share_of (First own) = port_share 0 own
port_share_of (Second own) = port_share 1 own
port_share_of (Third own) = port_share 2 own
port_share_of (Fourth own) = port_share 3 own
port_share_of Spare = no_share
