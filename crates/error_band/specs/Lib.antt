pub use Rattle.lane_kernels.specs.Places
