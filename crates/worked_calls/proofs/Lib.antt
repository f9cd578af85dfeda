mod OneBump
mod RisingArcs
